-- The leftmost free run of a tree is the lowest one of its blocks. Assumes nothing.
use Rattle.std.proofs.Common.{[], ◌*◌, ◌++◌, ◌+◌, ◌-◌, ◌<◌, ◌^◌, ◌∙◌, ◌≡◌, ◌≤◌, add_comm, add-mul, ap, ap₂, arith, inl, inr, mul-le-mul_right, pow-add, pow_pos, refl, suc, suc-mul, zero, ℕ}
use Rattle.std.proofs.Math.Bool.{and-true}
use Rattle.std.proofs.Math.Nat.{two-pow-succ}
use Rattle.laws.proofs.Lists.{clear_append}
use Rattle.laws.proofs.Searches.{lowest_cong, lowest_isnt, lowest_parts}
use Rattle.meaning.specs.Answers.{clear}
use Rattle.meaning.specs.Blocks.{Block, Live, ends, large, pages}
use Rattle.meaning.specs.Search.{least, lowest, or_else}
use Rattle.trees.proofs.Within.{Within, blocks_within, clear_all, clear_head, clear_outside}
use Rattle.trees.specs.Leftmost.{first_run}
use Rattle.trees.specs.Tree.{Tree, WF, blocks, wf_cut, wf_empty, wf_pair, wf_whole}

pub range : (s i j n : ℕ) → i ≤ j → j < i + n → (i * s ≤ j * s) × (j * s + s ≤ i * s + n * s)
range s i j n a b = (mul-le-mul_right s a, omega (arith, mul-le-mul_right s b, suc-mul j s, add-mul i n s))

pub span : {h : ℕ} (k d : ℕ) → h ≡ k + d → 2 ^ h ≡ 2 ^ d * 2 ^ k
span k d e = ap (λ x. 2 ^ x) (e ∙ add_comm k d) ∙ pow-add 2 d k

-- of two trees side by side, each alone decides what is free in its part
pub clear_left : {mid hi : ℕ} (x : Live) {y : Live} → Within mid hi y → (b : Block) → ends b ≤ mid → clear (x ++ y) b ≡ clear x b
clear_left x {y} w b e = rw (clear_append x y b, clear_outside w b (inr e)) (and-true (clear x b))

pub clear_right : {lo mid : ℕ} {x : Live} (y : Live) → Within lo mid x → (b : Block) → mid ≤ b.start → clear (x ++ y) b ≡ clear y b
clear_right {x = x} y w b e = rw (clear_append x y b, clear_outside w b (inl e)) refl

pub runs : {h : ℕ} {T : Tree} → WF h T → (k d i : ℕ) → h ≡ k + d → lowest (λ j. clear (blocks h (i * 2 ^ k) T) (large k j)) i (2 ^ d) ≡ first_run d i T
unfolding first_run blocks
runs {h} {T} w k zero i e = unfold lowest in rw (clear_all w (i * 2 ^ k) (large k i) (omega arith) (let z = span k 0 e in omega arith)) refl
runs wf_empty k (suc d) i e = absurd (omega arith)
runs (wf_cut a b c) k (suc d) i e = absurd (omega arith)
runs (wf_whole {h = h}) k (suc d) i e =
    lowest_isnt _ i (2 ^ suc d) λ j a b.
    clear_head (pages (i * 2 ^ k) (2 ^ h)) (large k j) []
    (omega (arith, range (2 ^ k) i j (2 ^ suc d) a b, span k (suc d) e, pow_pos k))
    (omega (arith, range (2 ^ k) i j (2 ^ suc d) a b, pow_pos k))
runs (wf_pair {h = h} {l = l} {r = r} u v) k (suc d) i e =
    let e' : h ≡ k + d = omega arith in
    let z = span k d e' in
    let q : ℕ = i * 2 ^ k in
    let base : (i + 2 ^ d) * 2 ^ k ≡ q + 2 ^ h = omega (arith, add-mul i (2 ^ d) (2 ^ k)) in
    let left : lowest (λ j. clear (blocks h q l ++ blocks h (q + 2 ^ h) r) (large k j)) i (2 ^ d) ≡ first_run d i l =
    lowest_cong _ (λ j. clear (blocks h q l) (large k j)) i (2 ^ d)
    (λ j a b. clear_left (blocks h q l) (blocks_within v (q + 2 ^ h)) (large k j) (omega (arith, range (2 ^ k) i j (2 ^ d) a b)))
    ∙ runs u k d i e'
    in
    let right : lowest (λ j. clear (blocks h q l ++ blocks h (q + 2 ^ h) r) (large k j)) (i + 2 ^ d) (2 ^ d) ≡ first_run d (i + 2 ^ d) r =
    lowest_cong _ (λ j. clear (blocks h ((i + 2 ^ d) * 2 ^ k) r) (large k j)) (i + 2 ^ d) (2 ^ d)
    (λ j a b. rw base (clear_right (blocks h (q + 2 ^ h) r) (blocks_within u q) (large k j) (omega (arith, range (2 ^ k) (i + 2 ^ d) j (2 ^ d) a b))))
    ∙ runs v k d (i + 2 ^ d) e'
    in
    rw (two-pow-succ d) (lowest_parts _ i (2 ^ d) (2 ^ d) ∙ ap₂ or_else left right)

-- for the whole arena
pub largest_first : {m : ℕ} {T : Tree} → WF m T → (k d : ℕ) → m ≡ k + d → least (λ j. clear (blocks m 0 T) (large k j)) (2 ^ (m - k)) ≡ first_run d 0 T
unfolding least
largest_first {m} {T} w k d e = grind (arith, runs w k d 0 e)
