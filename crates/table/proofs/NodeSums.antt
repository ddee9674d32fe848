-- What a node of any table adds to the figures, its bounds, and the digits of a bitmap. Assumes nothing.
use Rattle.std.proofs.Common.{List, ◌%◌, ◌*◌, ◌+◌, ◌-◌, ◌/◌, ◌<◌, ◌^◌, ◌∙◌, ◌∷◌, ◌≡◌, ◌≢◌, ◌≤◌, ◌⊎◌, ap, arith, cond, count_ones, eqb, eqb-true, false, get_or, inl, inr, le-leb, lt-ltb, mul_assoc, mul-suc, mul-zero, ne_eqb, pow-add, pow_pos, refl, suc, sym, true, zero, ℕ}
use Rattle.std.proofs.Math.Nat.{pow-succ'}
use Rattle.std.proofs.lemmas.Bool.{eqb-false}
use Rattle.std.specs.Int.Count.{ones_step}
use Rattle.cells.specs.Cell.{tag_in, whole_tag}
use Rattle.digits.specs.Digits.{ones}
use Rattle.laws.proofs.Logic.{split}
use Rattle.meaning.specs.Answers.{live_bytes}
use Rattle.meaning.specs.Blocks.{Live, arena, page_bytes, size_count, slot, slots, small}
use Rattle.meaning.specs.Bytes.{total}
use Rattle.trees.specs.Tree.{slot_blocks}
use Rattle.table.proofs.LevelSums.{level_sum_le, levels_sum_le}
use Rattle.table.specs.Sums.{by_tag, cut_live, is_cut, levels_sum, node_held, node_live}

-- ---- what a node adds

-- a large block
pub by_whole : (h tag a b : ℕ) → tag ≡ whole_tag → by_tag h tag a b ≡ a
unfolding by_tag
by_whole h tag a b e = rw e refl

-- a page that serves a size
pub by_cut : (tag a b : ℕ) → 0 < tag → tag ≤ size_count → by_tag 0 tag a b ≡ b
unfolding by_tag is_cut
by_cut tag a b p l = rw (ne_eqb tag whole_tag (λ e. omega arith), lt-ltb 0 tag p, le-leb tag size_count l) refl

-- any other node
pub by_else : (h tag a b : ℕ) → tag ≢ whole_tag → (h ≡ 0 → is_cut tag ≡ false) → by_tag h tag a b ≡ 0
unfolding by_tag
by_else h tag a b p q = grind arith

-- a node without a tag adds nothing
pub by_none : (h tag a b : ℕ) → tag ≡ 0 → by_tag h tag a b ≡ 0
unfolding is_cut
by_none h tag a b e = rw e (by_else h 0 a b (λ x. omega arith) (λ x. refl))

-- ---- bounds, on any table

-- what bounds both values bounds the choice
by_le : (h tag a b k : ℕ) → a ≤ k → b ≤ k → by_tag h tag a b ≤ k
unfolding by_tag
by_le h tag a b k p q = grind arith

-- the live slots of a page are at most the page
pub cut_live_le : (tag bits : ℕ) → cut_live tag bits ≤ page_bytes
unfolding cut_live slots
cut_live_le tag bits = grind arith

-- a node of height h adds at most 2 ^ h pages to live
pub node_live_le : (t : List ℕ) (pages h v : ℕ) → node_live t pages h v ≤ page_bytes * 2 ^ h
unfolding node_live
node_live_le t pages h v = by_le h _ _ _ _ (omega arith) (omega (arith, cut_live_le (tag_in (get_or t v 0)) (get_or t (v + pages) 0), pow_pos h))

-- and to the pages held
pub node_held_le : (t : List ℕ) (h v : ℕ) → node_held t h v ≤ 2 ^ h
unfolding node_held
node_held_le t h v = by_le h _ _ _ _ (omega arith) (pow_pos h)

-- no more nodes than a level has, 2 ^ h pages each, are at most all pages
level_span : (m h n : ℕ) → h ≤ m → n ≤ 2 ^ (m - h) → 2 ^ h * n ≤ 2 ^ m
level_span m h n l b = grind (arith, pow-add 2 h (m - h))

-- a sum over nodes of one level is at most the arena
pub level_live_le : (t : List ℕ) (pages m h v n : ℕ) → h ≤ m → n ≤ 2 ^ (m - h) → total (node_live t pages h) v n ≤ arena m
level_live_le t pages m h v n l b = omega (arith, level_sum_le (node_live t pages h) (page_bytes * 2 ^ h) v n (node_live_le t pages h), mul_assoc page_bytes (2 ^ h) n, level_span m h n l b)

-- and at most all pages
pub level_held_le : (t : List ℕ) (m h v n : ℕ) → h ≤ m → n ≤ 2 ^ (m - h) → total (node_held t h) v n ≤ 2 ^ m
level_held_le t m h v n l b = omega (arith, level_sum_le (node_held t h) (2 ^ h) v n (node_held_le t h), level_span m h n l b)

-- the sum over the levels lower than h is at most h times the arena
pub levels_live_le : (t : List ℕ) (pages m h : ℕ) → h ≤ m + 1 → levels_sum (node_live t pages) m h ≤ arena m * h
levels_live_le t pages m h l = levels_sum_le (node_live t pages) (arena m) m h (λ k b. level_live_le t pages m k (2 ^ (m - k)) (2 ^ (m - k)) (omega arith) (omega arith))

-- and at most h times all pages
pub levels_held_le : (t : List ℕ) (m h : ℕ) → h ≤ m + 1 → levels_sum (node_held t) m h ≤ 2 ^ m * h
levels_held_le t m h l = levels_sum_le (node_held t) (2 ^ m) m h (λ k b. level_held_le t m k (2 ^ (m - k)) (2 ^ (m - k)) (omega arith) (omega arith))

-- ---- the digits of a bitmap

-- the slots that are live are those that are not in the bitmap
pub open_count_lem : (n taken : ℕ) → taken < 2 ^ n → count_ones (ones n - taken) + count_ones taken ≡ n
unfolding lib.Count.ones
open_count_lem zero taken l = let z : taken ≡ 0 = omega arith in rw z refl
open_count_lem (suc n) taken l =
    let p = pow-succ' 2 n in
    let hi : (ones (suc n) - taken) / 2 ≡ ones n - taken / 2 = omega arith in
    let lo : (ones (suc n) - taken) % 2 + taken % 2 ≡ 1 = omega arith in
    let ih = open_count_lem n (taken / 2) (omega arith) in
    let a : count_ones (ones (suc n) - taken) ≡ (ones (suc n) - taken) % 2 + count_ones (ones n - taken / 2) = ones_step (ones (suc n) - taken) ∙ ap (λ (x : ℕ). (ones (suc n) - taken) % 2 + count_ones x) hi in
    omega (arith, ones_step taken)

-- the bytes of a page's live slots
pub slots_live : (c q i n bits : ℕ) → bits < 2 ^ n → live_bytes (slot_blocks c q i n bits) ≡ small c * count_ones bits
unfolding slot_blocks live_bytes lib.Count.ones
slots_live c q i zero bits l = let z : bits ≡ 0 = omega arith in rw z (sym (mul-zero (small c)))
slots_live c q i (suc n) bits l = go (split (eqb (bits % 2) 1)) (slots_live c q (suc i) n (bits / 2) (omega (arith, pow-succ' 2 n)))
  where
    rest : Live
    rest = slot_blocks c q (suc i) n (bits / 2)

    go : (eqb (bits % 2) 1 ≡ true) ⊎ (eqb (bits % 2) 1 ≡ false) → live_bytes rest ≡ small c * count_ones (bits / 2) → live_bytes (cond (eqb (bits % 2) 1) (slot c q i ∷ rest) rest) ≡ small c * count_ones bits
    go (inl x) ih =
        let z : count_ones bits ≡ suc (count_ones (bits / 2)) = omega (arith, ones_step bits, eqb-true (bits % 2) 1 x) in
        rw (x, z) (omega (arith, mul-suc (small c) (count_ones (bits / 2))))
    go (inr x) ih =
        let y : bits % 2 ≢ 1 = eqb-false (bits % 2) 1 x in
        let z : count_ones bits ≡ count_ones (bits / 2) = omega (arith, ones_step bits) in
        rw (x, z) ih
