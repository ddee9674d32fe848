-- `after` keeps `Allowed`: what a take finds is a block of the arena that meets no live one. Assumes nothing.
use Rattle.std.proofs.Common.{Bool, ◌*◌, ◌-◌, ◌<◌, ◌^◌, ◌||◌, ◌≡◌, ◌≤◌, arith, cond, eqb, false, leb, ltb, pow_pos, refl, subst, suc, true, ℕ, ⊎_elim}
use Rattle.std.proofs.Math.Option.{Option, none, some}
use Rattle.meaning.specs.Answers.{Request, after, check_up, clear, figures, free, fresh_place, give_back, has_slot, insert_some, k_for, large_place, lowest_slot, place, served_place, serves, size_for, small_place, start, take, which}
use Rattle.meaning.specs.Blocks.{Allowed, Block, IsBlock, Live, allowed_none, arena, is_large, is_slot, large, page_bytes, size_count, slot, slots, small, small_most}
use Rattle.meaning.specs.Search.{bind, has, least}
use Rattle.laws.proofs.Allowing.{BesideAll, allowed_inserted, allowed_removed, beside_free, beside_slot, one_size_of}
use Rattle.laws.proofs.Logic.{and_left, bind_some, or_else_some}
use Rattle.laws.proofs.Searches.{lowest_found}
use Rattle.laws.proofs.Sizes.{slots_two, small_most_lem}

-- b is a block of the arena, and may stand beside the live ones
pub record Fresh (m : ℕ) (L : Live) (b : Block) : Type 0 where
  pub is_block : IsBlock m b
  pub beside : BesideAll b L

pub small_fresh : {m : ℕ} {L : Live} (c : ℕ) {b : Block} → c < size_count → Allowed m L → small_place m L c ≡ some b → Fresh m L b
unfolding small_place served_place fresh_place
small_fresh {m} {L} c {b} c< a e = ⊎_elim served fresh (or_else_some _ _ e)
  where
    served : bind (least (has_slot L c) (2 ^ m)) (λ q. bind (lowest_slot L c q) (λ i. some (slot c q i))) ≡ some b → Fresh m L b
    served f =
        let (q, f₁, f₂) = bind_some (least (has_slot L c) (2 ^ m)) _ f in
        let (i, f₃, f₄) = bind_some (lowest_slot L c q) _ f₂ in
        let g = lowest_found (has_slot L c) 0 (2 ^ m) q (unfold least in f₁) in
        let k = lowest_found (λ i. clear L (slot c q i)) 0 (slots c) i (unfold lowest_slot least in f₃) in
        let sv = and_left (serves L (small c) q) (has (lowest_slot L c q)) (unfold has_slot in g.passes) in
        let y : slot c q i ≡ b = cc in
        subst (λ x. Fresh m L x) y (record { is_block = is_slot c q i c< (omega arith) (omega arith); beside = beside_slot c q i (omega arith) (one_size_of (small c) q a sv) k.passes })

    fresh : bind (least (free L) (2 ^ m)) (λ q. some (slot c q 0)) ≡ some b → Fresh m L b
    fresh f =
        let (q, f₁, f₂) = bind_some (least (free L) (2 ^ m)) _ f in
        let g = lowest_found (free L) 0 (2 ^ m) q (unfold least in f₁) in
        let y : slot c q 0 ≡ b = cc in
        subst (λ x. Fresh m L x) y (record { is_block = is_slot c q 0 c< (omega arith) (omega (arith, slots_two c)); beside = beside_free q 1 (slot c q 0) (omega arith) (omega arith) (omega (arith, small_most_lem c)) (omega arith) a (unfold free in g.passes) })

pub large_fresh : {m : ℕ} {L : Live} (k : ℕ) {b : Block} → k ≤ m → Allowed m L → large_place m L k ≡ some b → Fresh m L b
unfolding large_place
large_fresh {m} {L} k {b} k≤ a e =
    let (j, f₁, f₂) = bind_some (least (λ j. clear L (large k j)) (2 ^ (m - k))) _ e in
    let g = lowest_found (λ j. clear L (large k j)) 0 (2 ^ (m - k)) j (unfold least in f₁) in
    let y : large k j ≡ b = cc in
    subst (λ x. Fresh m L x) y (record { is_block = is_large k j k≤ (omega arith); beside = beside_free (j * 2 ^ k) (2 ^ k) (large k j) (omega arith) (omega arith) (omega arith) (pow_pos k) a g.passes })

pub place_fresh : {m : ℕ} {L : Live} {b : Block} (n : ℕ) → Allowed m L → place m L n ≡ some b → Fresh m L b
unfolding place
place_fresh {m} {L} {b} n a e = go (leb n small_most) e
  where
    go : (t : Bool) → cond t (bind (size_for n) (small_place m L)) (bind (k_for m n) (large_place m L)) ≡ some b → Fresh m L b
    go true f =
        let (c, f₁, f₂) = bind_some (size_for n) _ f in
        let g = lowest_found (λ c. leb n (small c)) 0 size_count c (unfold size_for least in f₁) in
        small_fresh c (omega arith) a f₂
    go false f =
        let (k, f₁, f₂) = bind_some (k_for m n) _ f in
        let g = lowest_found (λ k. leb n (page_bytes * 2 ^ k)) 0 (suc m) k (unfold k_for least in f₁) in
        large_fresh k (omega arith) a f₂

-- the live blocks are allowed after every request, if they were before
pub after_allowed : {m : ℕ} {L : Live} (r : Request) → Allowed m L → Allowed m (after m L r)
unfolding after insert_some
after_allowed start a = allowed_none
after_allowed figures a = a
after_allowed check_up a = a
after_allowed (which o) a = a
after_allowed (give_back o) a = allowed_removed o a
after_allowed {m} {L} (take n) a = go (eqb n 0 || ltb (arena m) n) (place m L n) refl
  where
    go : (t : Bool) (o : Option Block) → place m L n ≡ o → Allowed m (cond t L (insert_some o L))
    go true o e = a
    go false none e = a
    go false (some b) e = let f = place_fresh n a e in allowed_inserted f.is_block a f.beside
