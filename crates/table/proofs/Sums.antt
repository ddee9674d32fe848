-- The figures: the sums over the nodes of a table that stands for a set of live blocks are that set's. Assumes nothing.
use Rattle.std.proofs.Common.{List, ◌*◌, ◌+◌, ◌<◌, ◌^◌, ◌∙◌, ◌≡◌, ap, ap₂, arith, get_or, refl, suc, sym, zero, ℕ}
use Rattle.cells.specs.Cell.{room_in, tag_in}
use Rattle.meaning.specs.Answers.{held_bytes, live_bytes, room_up_to}
use Rattle.meaning.specs.Blocks.{Live, page_bytes, slots}
use Rattle.trees.proofs.Sums.{live_append, tree_held, tree_room}
use Rattle.trees.specs.Sums.{room_bytes, used}
use Rattle.trees.specs.Tree.{Tree, blocks, cut, empty, pair, vacant, whole}
use Rattle.table.proofs.Cells.{cell_room, cell_tag, enc_wf}
use Rattle.table.proofs.LevelSums.{all_levels}
use Rattle.table.proofs.NodeSums.{by_cut, by_none, by_whole, open_count_lem, slots_live}
use Rattle.table.proofs.Summaries.{room_best}
use Rattle.table.specs.Sums.{by_tag, cut_live, levels_sum, node_held, node_live, tree_sum}
use Rattle.table.specs.Table.{Encodes, Stands, open_bits}

-- ---- the nodes of a tree together

-- a figure of trees that the halves of a tree add up to, and that each leaf and each large block adds to as its node says
module _
    (t : List ℕ)
    (pages : ℕ)
    (a : ℕ → ℕ)
    (b : ℕ → ℕ → ℕ)
    (figure : ℕ → ℕ → Tree → ℕ)
    (of_empty : (q : ℕ) → figure 0 q empty ≡ 0)
    (of_whole : (h q : ℕ) → figure h q whole ≡ a h)
    (of_cut : (q c bits : ℕ) → bits < 2 ^ slots c → figure 0 q (cut c bits) ≡ b (c + 1) (open_bits c bits))
    (of_pair : (h q : ℕ) (l r : Tree) → figure (suc h) q (pair l r) ≡ figure h q l + figure h (q + 2 ^ h) r)
  where
    -- free pages add nothing
    of_vacant : (h q : ℕ) → figure h q (vacant h) ≡ 0
    unfolding vacant
    of_vacant zero q = of_empty q
    of_vacant (suc h) q = of_pair h q (vacant h) (vacant h) ∙ omega (arith, of_vacant h q, of_vacant h (q + 2 ^ h))

    -- the nodes of a tree, each adding what its tag says, add up to the figure of the tree
    pub tree_sum_lem : (h v q : ℕ) (T : Tree) → h < 62 → Encodes t pages v h T → tree_sum (λ k u. by_tag k (tag_in (get_or t u 0)) (a k) (b (tag_in (get_or t u 0)) (get_or t (u + pages) 0))) h v ≡ figure h q T
    unfolding tree_sum
    tree_sum_lem zero v q empty low e = by_none 0 _ _ _ (cell_tag t pages 0 v empty low e) ∙ sym (of_empty q)
    tree_sum_lem zero v q whole low e = by_whole 0 _ _ _ (cell_tag t pages 0 v whole low e) ∙ sym (of_whole 0 q)
    tree_sum_lem zero v q (cut c bits) low e =
        let g : tag_in (get_or t v 0) ≡ c + 1 = cell_tag t pages 0 v (cut c bits) low e in
        by_cut _ _ _ (omega arith) (omega (arith, e.1.0)) ∙ (ap₂ b g e.3 ∙ sym (of_cut q c bits e.1.2))
    tree_sum_lem zero v q (pair l r) low e = absurd e.1
    tree_sum_lem (suc h) v q empty low e = absurd e.1
    tree_sum_lem (suc h) v q whole low e =
        let x = tree_sum_lem h (2 * v) q (vacant h) (omega arith) e.2 ∙ of_vacant h q in
        let y = tree_sum_lem h (2 * v + 1) q (vacant h) (omega arith) e.3 ∙ of_vacant h q in
        rw (x, y) (omega (arith, by_whole (suc h) (tag_in (get_or t v 0)) (a (suc h)) (b (tag_in (get_or t v 0)) (get_or t (v + pages) 0)) (cell_tag t pages (suc h) v whole low e), of_whole (suc h) q))
    tree_sum_lem (suc h) v q (cut c bits) low e = absurd e.1
    tree_sum_lem (suc h) v q (pair l r) low e =
        let x = tree_sum_lem h (2 * v) q l (omega arith) e.2 in
        let y = tree_sum_lem h (2 * v + 1) (q + 2 ^ h) r (omega arith) e.3 in
        rw (x, y) (omega (arith, by_none (suc h) (tag_in (get_or t v 0)) (a (suc h)) (b (tag_in (get_or t v 0)) (get_or t (v + pages) 0)) (cell_tag t pages (suc h) v (pair l r) low e), of_pair h q l r))

-- ---- live

-- the live bytes of a page that serves a size
cut_live_lem : (q c bits : ℕ) → bits < 2 ^ slots c → live_bytes (blocks 0 q (cut c bits)) ≡ cut_live (c + 1) (open_bits c bits)
unfolding blocks cut_live
cut_live_lem q c bits l = grind (arith, open_count_lem (slots c) bits l, slots_live c q 0 (slots c) bits l)

-- of a large block
whole_live : (h q : ℕ) → live_bytes (blocks h q whole) ≡ page_bytes * 2 ^ h
unfolding blocks live_bytes
whole_live h q = omega arith

-- of a free page
empty_live : (q : ℕ) → live_bytes (blocks 0 q empty) ≡ 0
unfolding blocks live_bytes
empty_live q = refl

-- of two halves
pair_live : (h q : ℕ) (l r : Tree) → live_bytes (blocks (suc h) q (pair l r)) ≡ live_bytes (blocks h q l) + live_bytes (blocks h (q + 2 ^ h) r)
unfolding blocks
pair_live h q l r = live_append (blocks h q l) (blocks h (q + 2 ^ h) r)

-- the sum over all nodes is the bytes of the live blocks
pub stands_live : {m : ℕ} {L : Live} {t : List ℕ} → Stands m L t → levels_sum (node_live t (2 ^ m)) m (m + 1) ≡ live_bytes L
unfolding node_live
stands_live {m} {L} {t} s =
    let x = s.small_m in
    all_levels (node_live t (2 ^ m)) m
    ∙ (tree_sum_lem t (2 ^ m) (λ h. page_bytes * 2 ^ h) cut_live (λ h q T. live_bytes (blocks h q T)) empty_live whole_live cut_live_lem pair_live m 1 0 s.tree (omega arith) s.encodes
    ∙ ap live_bytes s.same)

-- ---- held

-- the sum over all nodes, in bytes, is that of the pages that are not free
pub stands_held : {m : ℕ} {L : Live} {t : List ℕ} → Stands m L t → page_bytes * levels_sum (node_held t) m (m + 1) ≡ held_bytes m L
unfolding node_held used
stands_held {m} {L} {t} s =
    let x = s.small_m in
    ap (λ (n : ℕ). page_bytes * n)
    (all_levels (node_held t) m
    ∙ tree_sum_lem t (2 ^ m) (λ h. 2 ^ h) (λ g k. 1) (λ h q T. used h T) (λ q. refl) (λ h q. refl) (λ q c bits l. refl) (λ h q l r. refl) m 1 0 s.tree (omega arith) s.encodes)
    ∙ (sym (tree_held (enc_wf t (2 ^ m) 1 m s.tree s.encodes)) ∙ ap (held_bytes m) s.same)

-- ---- room

-- the root's room is the bytes of the largest free run
pub stands_room : {m : ℕ} {L : Live} {t : List ℕ} → Stands m L t → room_bytes (room_in (get_or t 1 0)) ≡ room_up_to m L m
stands_room {m} {L} {t} s =
    let x = s.small_m in
    let w = enc_wf t (2 ^ m) 1 m s.tree s.encodes in
    ap room_bytes (cell_room t (2 ^ m) m 1 s.tree (omega arith) s.encodes ∙ room_best w)
    ∙ (sym (tree_room w) ∙ ap (λ (M : Live). room_up_to m M m) s.same)
