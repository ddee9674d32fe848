-- What changes: a granted take adds exactly its block, a granted give back removes exactly the block that starts there, once; a refusal changes nothing.
-- Assumes nothing.
use Rattle.std.proofs.Common.{Bool, [], ◌*◌, ◌++◌, ◌<◌, ◌^◌, ◌∙◌, ◌∷◌, ◌≡◌, ◌≤◌, ◌⊎◌, ap, arith, cond, eqb, eqb-true, false, inl, inr, leb, leb-true, ltb, refl, subst, suc, sym, true, ℕ}
use Rattle.std.proofs.Math.Option.{Option, none, some}
use Rattle.meaning.specs.Answers.{Answer, Request, after, answer, check_up, done, figures, give_back, insert, insert_some, k_for, offset, or_refuse, place, refused, remove, size_for, start, starts_at, take, which}
use Rattle.meaning.specs.Blocks.{Allowed, BeforeAll, Block, IsBlock, Live, allowed_none, allowed_some, arena, before_none, before_some, ends, page_bytes, size_count, small}
use Rattle.meaning.specs.Candidates.{Candidate, in_free_page, in_run, in_served}
use Rattle.meaning.specs.Search.{find, least}
use Rattle.laws.proofs.Allowing.{block_size}
use Rattle.laws.proofs.Keeps.{place_fresh}
use Rattle.laws.proofs.Logic.{no_some, split}
use Rattle.laws.proofs.Refusals.{Lowest, place_lowest}
use Rattle.laws.proofs.Searches.{lowest_found}

-- the live blocks `more` are the live blocks `less` with b added, and nothing else
pub record Added (b : Block) (less more : Live) : Type 0 where
  pub lower : Live
  pub higher : Live
  pub without : less ≡ lower ++ higher
  pub with_it : more ≡ lower ++ (b ∷ higher)

insert_adds : (b : Block) (L : Live) → Added b L (insert b L)
unfolding insert
insert_adds b [] = record { lower = []; higher = []; without = refl; with_it = refl }
insert_adds b (x ∷ L) = go (leb b.start x.start) (insert_adds b L)
  where
    go : (t : Bool) → Added b L (insert b L) → Added b (x ∷ L) (cond t (b ∷ x ∷ L) (x ∷ insert b L))
    go true a = record { lower = []; higher = x ∷ L; without = refl; with_it = refl }
    go false a = record { lower = x ∷ a.lower; higher = a.higher; without = ap (λ (y : Live). x ∷ y) a.without; with_it = ap (λ (y : Live). x ∷ y) a.with_it }

-- no block after b starts where b does
remove_later : {m : ℕ} {b : Block} {L : Live} → b.start < ends b → BeforeAll b L → Allowed m L → remove b.start L ≡ L
unfolding remove starts_at
remove_later n before_none a = refl
remove_later {b = b} n (before_some {b' = x} h r) (allowed_some i p a) = grind (arith, remove_later n r a)

remove_takes : {m : ℕ} {b : Block} {L : Live} (o : ℕ) → Allowed m L → find (starts_at o) L ≡ some b → (b.start ≡ o) × Added b (remove o L) L
unfolding find remove
remove_takes o allowed_none e = no_some e
remove_takes {m} {b} o (allowed_some {b = x} {L = L} i p a) e = go (split (starts_at o x)) (remove_takes o a)
  where
    go : (starts_at o x ≡ true) ⊎ (starts_at o x ≡ false) → (find (starts_at o) L ≡ some b → (b.start ≡ o) × Added b (remove o L) L) → (b.start ≡ o) × Added b (cond (starts_at o x) (remove o L) (x ∷ remove o L)) (x ∷ L)
    go (inl t) f =
        let e₁ : some x ≡ some b = rw t at e in
        let e₂ : x ≡ b = cc in
        let z : x.start ≡ o = eqb-true x.start o (unfold starts_at in t) in
        let same : remove o L ≡ L = subst (λ (y : ℕ). remove y L ≡ L) z (remove_later (block_size i) p a) in
        (sym (ap (λ (y : Block). y.start) e₂) ∙ z, rw t (record { lower = []; higher = L; without = same; with_it = ap (λ (y : Block). y ∷ L) e₂ }))
    go (inr t) f =
        let g = f (rw t at e) in
        (g.0, rw t (record { lower = x ∷ g.1.lower; higher = g.1.higher; without = ap (λ (y : Live). x ∷ y) g.1.without; with_it = ap (λ (y : Live). x ∷ y) g.1.with_it }))

-- ---- take

-- what a take that answers the offset o does
pub record Taken (m : ℕ) (L : Live) (n o : ℕ) : Type 0 where
  pub block : Block
  pub at : block.start ≡ o
  pub is_block : IsBlock m block
  pub enough : n ≤ block.size
  pub lowest : Lowest m L n block
  pub adds : Added block L (after m L (take n))

-- a candidate is large enough
candidate_enough : {m : ℕ} {L : Live} {n : ℕ} {b : Block} → Candidate m L n b → n ≤ b.size
unfolding size_for k_for least
candidate_enough {n = n} (in_served c q i s f h) = leb-true n (small c) (lowest_found (λ c. leb n (small c)) 0 size_count c f).passes
candidate_enough {n = n} (in_free_page c q s f x h fr) = leb-true n (small c) (lowest_found (λ c. leb n (small c)) 0 size_count c f).passes
candidate_enough {m = m} {n = n} (in_run k j s f h cl) = leb-true n (page_bytes * 2 ^ k) (lowest_found (λ k. leb n (page_bytes * 2 ^ k)) 0 (suc m) k f).passes

pub take_adds : {m : ℕ} {L : Live} (n o : ℕ) → Allowed m L → answer m L (take n) ≡ offset o → Taken m L n o
unfolding answer after or_refuse insert_some
take_adds {m} {L} n o a e = go (split (eqb n 0)) (split (ltb (arena m) n)) (place m L n) refl
  where
    -- the answer is a refusal with a number that is not 0
    not_so : (k : ℕ) → 0 < k → answer m L (take n) ≡ refused k → Taken m L n o
    not_so k p f = absurd (omega (arith, ap (λ (x : Answer). x.refusal) (sym f ∙ e)))

    go : (eqb n 0 ≡ true) ⊎ (eqb n 0 ≡ false) → (ltb (arena m) n ≡ true) ⊎ (ltb (arena m) n ≡ false) → (x : Option Block) → place m L n ≡ x → Taken m L n o
    go (inl s) t x f = not_so 1 (omega arith) (rw s refl)
    go (inr s) (inl t) x f = not_so 2 (omega arith) (rw (s, t) refl)
    go (inr s) (inr t) none f = not_so 3 (omega arith) (rw (s, t, f) refl)
    go (inr s) (inr t) (some b) f =
        let g : offset b.start ≡ offset o = sym (rw (s, t, f) refl) ∙ e in
        let low = place_lowest m L n f in
        record { block = b; at = ap (λ (x : Answer). x.first) g; is_block = (place_fresh n a f).is_block; enough = candidate_enough low.is_candidate; lowest = low; adds = rw (s, t, f) (insert_adds b L) }

-- ---- give back

-- what a give back at o that is granted does
pub record Given (m : ℕ) (L : Live) (o : ℕ) : Type 0 where
  pub block : Block
  pub at : block.start ≡ o
  pub removes : Added block (after m L (give_back o)) L

pub give_back_removes : {m : ℕ} {L : Live} (o : ℕ) → Allowed m L → answer m L (give_back o) ≡ done → Given m L o
unfolding answer after or_refuse
give_back_removes {m} {L} o a e = go (find (starts_at o) L) refl
  where
    go : (x : Option Block) → find (starts_at o) L ≡ x → Given m L o
    go none f = absurd (omega (arith, ap (λ (y : Answer). y.refusal) (sym (rw f at e))))
    go (some b) f = let g = remove_takes o a f in record { block = b; at = g.0; removes = g.1 }

find_removed : (o : ℕ) (L : Live) → find (starts_at o) (remove o L) ≡ none
unfolding find remove
find_removed o [] = refl
find_removed o (x ∷ L) = grind (arith, find_removed o L)

-- a second give back at the same offset is refused with 4
pub given_once : (m : ℕ) (L : Live) (o : ℕ) → answer m (after m L (give_back o)) (give_back o) ≡ refused 4
unfolding answer after or_refuse
given_once m L o = rw (find_removed o L) refl

-- ---- refusals

-- where no live block starts at o, none is removed
pub remove_unfound : (o : ℕ) (L : Live) → find (starts_at o) L ≡ none → remove o L ≡ L
unfolding find remove
remove_unfound o [] e = refl
remove_unfound o (x ∷ L) e = grind (arith, remove_unfound o L)

-- a refusal changes nothing: the refusal number is not 0
pub refusal_changes_nothing : (m : ℕ) (L : Live) (r : Request) → 0 < (answer m L r).refusal → after m L r ≡ L
unfolding answer after or_refuse insert_some
refusal_changes_nothing m L start e = absurd (omega arith)
refusal_changes_nothing m L figures e = refl
refusal_changes_nothing m L check_up e = refl
refusal_changes_nothing m L (which o) e = refl
refusal_changes_nothing m L (give_back o) e = go (find (starts_at o) L) refl e
  where
    go : (x : Option Block) → find (starts_at o) L ≡ x → 0 < (or_refuse 4 (λ b. done) x).refusal → remove o L ≡ L
    go none f g = remove_unfound o L f
    go (some b) f g = absurd (omega arith)
refusal_changes_nothing m L (take n) e = grind arith
