-- What may be added to an allowed set of live blocks, and what may be taken away. Assumes nothing.
use Rattle.std.proofs.Common.{Bool, [], ◌&&◌, ◌*◌, ◌+◌, ◌/◌, ◌<◌, ◌||◌, ◌∙◌, ◌∷◌, ◌≡◌, ◌≤◌, ◌⊎◌, arith, cond, eqb, false, inl, inr, leb, leb-false, leb-true, pow_pos, refl, sym, true, ℕ, ⊎_elim}
use Rattle.std.proofs.lemmas.Bool.{or_cases}
use Rattle.meaning.specs.Answers.{clear, insert, remove, serves, starts_at}
use Rattle.meaning.specs.Blocks.{Allowed, Before, BeforeAll, Block, IsBlock, Live, allowed_none, allowed_some, before_none, before_some, ends, is_large, is_slot, page_bytes, pages, slot, slots, small}
use Rattle.meaning.specs.Search.{any, every}
use Rattle.laws.proofs.Logic.{and_right, contra, split}
use Rattle.laws.proofs.Sizes.{slot_in, small_pos}

-- ---- giving back keeps what is allowed

before_removed : {b : Block} (o : ℕ) {L : Live} → BeforeAll b L → BeforeAll b (remove o L)
unfolding remove
before_removed o before_none = before_none
before_removed {b} o (before_some {b' = x} {L = L} h r) = go (starts_at o x) (before_removed o r)
  where
    go : (t : Bool) → BeforeAll b (remove o L) → BeforeAll b (cond t (remove o L) (x ∷ remove o L))
    go true ih = ih
    go false ih = before_some h ih

pub allowed_removed : {m : ℕ} (o : ℕ) {L : Live} → Allowed m L → Allowed m (remove o L)
unfolding remove
allowed_removed o allowed_none = allowed_none
allowed_removed {m} o (allowed_some {b = x} {L = L} i b r) = go (starts_at o x) (allowed_removed o r)
  where
    go : (t : Bool) → Allowed m (remove o L) → Allowed m (cond t (remove o L) (x ∷ remove o L))
    go true ih = ih
    go false ih = allowed_some i (before_removed o b) ih

-- ---- what may be inserted: a block that meets no live one, and shares no page with one of another size

pub record Beside (b x : Block) : Type 0 where
  pub apart : (ends x ≤ b.start) ⊎ (ends b ≤ x.start)
  pub one_size : b.start / page_bytes ≡ x.start / page_bytes → b.size ≡ x.size

pub data BesideAll (b : Block) : Live → Type 0 where
  beside_none : BesideAll b []
  beside_some : {x : Block} {L : Live} → Beside b x → BesideAll b L → BesideAll b (x ∷ L)

pub block_size : {m : ℕ} {b : Block} → IsBlock m b → b.start < ends b
block_size (is_slot c q i a b d) = omega (arith, small_pos c)
block_size (is_large k j a b) = omega (arith, pow_pos k)

-- b stands before all that stand after x, if it stands at or before x
before_rest : {m : ℕ} {b x : Block} {L : Live} → b.start < ends b → b.start ≤ x.start → Allowed m L → BeforeAll x L → BesideAll b L → BeforeAll b L
before_rest n l a before_none s = before_none
before_rest {b = b} {x = x} n l (allowed_some {b = y} i p a) (before_some h r) (beside_some s t) =
    before_some (record { apart = ⊎_elim (λ (z : ends y ≤ b.start). absurd (omega (arith, block_size i, h.apart))) (λ (z : ends b ≤ y.start). z) s.apart; one_size = s.one_size }) (before_rest {x = x} n l a r t)

before_inserted : {x b : Block} {L : Live} → Before x b → BeforeAll x L → BeforeAll x (insert b L)
unfolding insert
before_inserted h before_none = before_some h before_none
before_inserted {x} {b} h (before_some {b' = y} {L = L} k r) = go (leb b.start y.start) (before_inserted h r)
  where
    go : (t : Bool) → BeforeAll x (insert b L) → BeforeAll x (cond t (b ∷ y ∷ L) (y ∷ insert b L))
    go true ih = before_some h (before_some k r)
    go false ih = before_some k ih

pub allowed_inserted : {m : ℕ} {b : Block} {L : Live} → IsBlock m b → Allowed m L → BesideAll b L → Allowed m (insert b L)
unfolding insert
allowed_inserted i allowed_none s = allowed_some i before_none allowed_none
allowed_inserted {m} {b} i (allowed_some {b = x} {L = L} j p a) (beside_some s t) = go (split (leb b.start x.start)) (allowed_inserted i a t)
  where
    go : (leb b.start x.start ≡ true) ⊎ (leb b.start x.start ≡ false) → Allowed m (insert b L) → Allowed m (cond (leb b.start x.start) (b ∷ x ∷ L) (x ∷ insert b L))
    go (inl e) ih =
        let le = leb-true b.start x.start e in
        let n = block_size i in
        let first : Before b x = record { apart = ⊎_elim (λ (z : ends x ≤ b.start). absurd (omega (arith, block_size j))) (λ (z : ends b ≤ x.start). z) s.apart; one_size = s.one_size } in
        rw e (allowed_some i (before_some first (before_rest {x = x} n le a p t)) (allowed_some j p a))
    go (inr e) ih =
        let lt = leb-false b.start x.start e in
        let first : Before x b = record { apart = ⊎_elim (λ (z : ends x ≤ b.start). z) (λ (z : ends b ≤ x.start). absurd (omega (arith, block_size i))) s.apart; one_size = λ q. sym (s.one_size (sym q)) } in
        rw e (allowed_some j (before_inserted first p) ih)

pub apart_of : (b x : Block) (L : Live) → clear (x ∷ L) b ≡ true → (ends x ≤ b.start) ⊎ (ends b ≤ x.start)
unfolding clear every
apart_of b x L e = grind arith

pub clear_rest : (b x : Block) (L : Live) → clear (x ∷ L) b ≡ true → clear L b ≡ true
unfolding clear every
clear_rest b x L e = and_right (leb (ends x) b.start || leb (ends b) x.start) (clear L b) e

-- a block inside free pages
pub beside_free : {m : ℕ} {L : Live} (q n : ℕ) (b : Block) → page_bytes * q ≤ b.start → b.start < page_bytes * q + page_bytes → ends b ≤ page_bytes * (q + n) → 0 < n → Allowed m L → clear L (pages q n) ≡ true → BesideAll b L
beside_free q n b lo pg hi p allowed_none c = beside_none
beside_free q n b lo pg hi p (allowed_some {b = x} {L = L} i f a) c =
    let w = apart_of (pages q n) x L c in
    let s = block_size i in
    beside_some {x = x} (record {
      apart = ⊎_elim (λ (z : ends x ≤ page_bytes * q). inl (omega arith)) (λ (z : page_bytes * q + page_bytes * n ≤ x.start). inr (omega arith)) w;
      one_size = λ e. ⊎_elim (λ (z : ends x ≤ page_bytes * q). absurd (omega arith)) (λ (z : page_bytes * q + page_bytes * n ≤ x.start). absurd (omega arith)) w;
    }) (beside_free q n b lo pg hi p a (clear_rest (pages q n) x L c))

-- every block that starts in page q has size s
pub data OneSize (s q : ℕ) : Live → Type 0 where
  one_none : OneSize s q []
  one_some : {x : Block} {L : Live} → (x.start / page_bytes ≡ q → x.size ≡ s) → OneSize s q L → OneSize s q (x ∷ L)

one_after : {s q : ℕ} {x : Block} {L : Live} → x.start / page_bytes ≡ q → x.size ≡ s → BeforeAll x L → OneSize s q L
one_after p e before_none = one_none
one_after p e (before_some h r) = one_some (λ z. sym (h.one_size (p ∙ sym z)) ∙ e) (one_after p e r)

pub is_server : (s q : ℕ) (y : Block) → eqb y.size s && eqb (y.start / page_bytes) q ≡ true → (y.size ≡ s) × (y.start / page_bytes ≡ q)
is_server s q y e = grind arith

pub one_before : {x : Block} {L : Live} (s q : ℕ) → BeforeAll x L → serves L s q ≡ true → x.start / page_bytes ≡ q → x.size ≡ s
unfolding serves any
one_before s q before_none e p = contra e refl
one_before {x} s q (before_some {b' = y} {L = L} h r) e p = ⊎_elim
    (λ (t : eqb y.size s && eqb (y.start / page_bytes) q ≡ true). let z = is_server s q y t in h.one_size (p ∙ sym z.1) ∙ z.0)
    (λ (t : serves L s q ≡ true). one_before s q r t p)
    (or_cases (eqb y.size s && eqb (y.start / page_bytes) q) (serves L s q) e)

pub one_size_of : {m : ℕ} {L : Live} (s q : ℕ) → Allowed m L → serves L s q ≡ true → OneSize s q L
unfolding serves any
one_size_of s q allowed_none e = contra e refl
one_size_of s q (allowed_some {b = x} {L = L} i f a) e = ⊎_elim
    (λ (t : eqb x.size s && eqb (x.start / page_bytes) q ≡ true). let z = is_server s q x t in one_some (λ p. z.0) (one_after z.1 z.0 f))
    (λ (t : serves L s q ≡ true). one_some (λ p. one_before s q f t p) (one_size_of s q a t))
    (or_cases (eqb x.size s && eqb (x.start / page_bytes) q) (serves L s q) e)

pub beside_slot : (c q i : ℕ) {L : Live} → i < slots c → OneSize (small c) q L → clear L (slot c q i) ≡ true → BesideAll (slot c q i) L
beside_slot c q i h one_none e = beside_none
beside_slot c q i h (one_some {x = x} {L = L} f r) e = beside_some
    (record { apart = apart_of (slot c q i) x L e; one_size = λ p. sym (f (let z : (slot c q i).start / page_bytes ≡ q = omega (arith, slot_in c i h, small_pos c) in sym p ∙ z)) })
    (beside_slot c q i h r (clear_rest (slot c q i) x L e))
