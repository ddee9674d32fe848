-- What a reader may rely on of an allowed set of live blocks: its blocks are pairwise apart, inside the arena and aligned. Assumes nothing.
use Rattle.std.proofs.Common.{◌%◌, ◌-◌, ◌^◌, ◌∙◌, ◌≡◌, ◌≤◌, ◌⊎◌, arith, inl, inr, mul-le-mul_right, pow-add, subst, sym, ℕ}
use mathlib.Core.List.{Memᴰ}
use mathlib.Core.List.Memᴰ
use Rattle.meaning.specs.Blocks.{Allowed, BeforeAll, Block, IsBlock, Live, alignment, allowed_none, allowed_some, arena, before_none, before_some, ends, is_large, is_slot}
use Rattle.laws.proofs.Aligned.{block_aligned}
use Rattle.laws.proofs.Sizes.{slot_in}

-- two blocks have no byte in common
abbrev pub Disjoint : Block → Block → Type 0
Disjoint b x = (ends b ≤ x.start) ⊎ (ends x ≤ b.start)

pub block_inside : {m : ℕ} {b : Block} → IsBlock m b → ends b ≤ arena m
block_inside (is_slot c q i c< q< i<) = omega (arith, slot_in c i i<)
block_inside {m} (is_large k j k≤ j<) = grind (arith, pow-add 2 (m - k) k, mul-le-mul_right (2 ^ k) j<)

pub live_is_block : {m : ℕ} {L : Live} {b : Block} → Allowed m L → Memᴰ b L → IsBlock m b
live_is_block allowed_none i = absurd (Memᴰ.not-nil i)
live_is_block {m} {b = b} (allowed_some {b = x} j p a) i = go (live_is_block a) (Memᴰ.cases_cons i)
  where
    go : {L : Live} → (Memᴰ b L → IsBlock m b) → (b ≡ x) ⊎ Memᴰ b L → IsBlock m b
    go f (inl e) = subst (λ y. IsBlock m y) (sym e) j
    go f (inr k) = f k

-- a live block lies inside the arena
pub live_inside : {m : ℕ} {L : Live} {b : Block} → Allowed m L → Memᴰ b L → ends b ≤ arena m
live_inside a i = block_inside (live_is_block a i)

-- a live block is aligned as section 2 says
pub live_aligned : {m : ℕ} {L : Live} {b : Block} → Allowed m L → Memᴰ b L → b.start % alignment b.size ≡ 0
live_aligned a i = block_aligned (live_is_block a i)

before_one : {b x : Block} {L : Live} → BeforeAll b L → Memᴰ x L → ends b ≤ x.start
before_one before_none i = absurd (Memᴰ.not-nil i)
before_one {b} {x} (before_some {b' = y} {L = L} h r) i = go (before_one r) (Memᴰ.cases_cons i)
  where
    go : (Memᴰ x L → ends b ≤ x.start) → (x ≡ y) ⊎ Memᴰ x L → ends b ≤ x.start
    go f (inl e) = subst (λ (z : Block). ends b ≤ z.start) (sym e) h.apart
    go f (inr k) = f k

-- two live blocks are the same or have no byte in common
pub live_apart : {m : ℕ} {L : Live} {b x : Block} → Allowed m L → Memᴰ b L → Memᴰ x L → (b ≡ x) ⊎ Disjoint b x
live_apart allowed_none i k = absurd (Memᴰ.not-nil i)
live_apart {b = b} {x = x} (allowed_some {b = y} {L = L} j p a) i k = go (live_apart a) (Memᴰ.cases_cons i) (Memᴰ.cases_cons k)
  where
    go : (Memᴰ b L → Memᴰ x L → (b ≡ x) ⊎ Disjoint b x) → (b ≡ y) ⊎ Memᴰ b L → (x ≡ y) ⊎ Memᴰ x L → (b ≡ x) ⊎ Disjoint b x
    go f (inl e) (inl g) = inl (e ∙ sym g)
    go f (inl e) (inr g) = inr (inl (subst (λ (z : Block). ends z ≤ x.start) (sym e) (before_one p g)))
    go f (inr e) (inl g) = inr (inr (subst (λ (z : Block). ends z ≤ b.start) (sym g) (before_one p e)))
    go f (inr e) (inr g) = f e g
