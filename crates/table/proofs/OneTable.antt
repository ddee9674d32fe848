-- Tables and allowed sets of live blocks correspond one to one: a table stands for one set at most, a set has one table and no more, and
-- only allowed sets have tables. Assumes nothing.
use Rattle.std.proofs.Common.{List, ◌*◌, ◌+◌, ◌-◌, ◌<◌, ◌^◌, ◌↔◌, ◌∙◌, ◌≡◌, ◌≤◌, ap, ap₂, arith, ext_get_or, get_or, get_or-take, length, length-take, pow_mono, pow_pos, refl, suc, sym, take, zero, ℕ, ⊎_elim}
use Rattle.std.proofs.Math.Nat.{pow-succ'}
use Rattle.laws.proofs.Logic.{le_or_lt}
use Rattle.meaning.specs.Blocks.{Allowed, Live, m_most}
use Rattle.trees.proofs.Exists.{tree_of}
use Rattle.trees.proofs.Unique.{tree_unique}
use Rattle.trees.specs.Tree.{Tree, WF, blocks, cut, empty, pair, whole}
use Rattle.table.proofs.Cells.{cell_tag, enc_cell, enc_wf}
use Rattle.table.proofs.Parts.{cell_at_bits, cell_at_node, cell_at_spare, depth_found, part_encodes, part_left, part_right, part_wf, wf_fit}
use Rattle.table.specs.Parts.{cell_at, depth_of, listed, part_at, table_of}
use Rattle.table.specs.Table.{Encodes, Stands, bits_of, need, tag_of}

-- ---- a table holds at most one tree

module _ (t : List ℕ) (pages : ℕ) where
  -- two trees at one node have one tag
  same_tag : (h v : ℕ) (T U : Tree) → h < 62 → Encodes t pages v h T → Encodes t pages v h U → tag_of T ≡ tag_of U
  same_tag h v T U low e f = sym (cell_tag t pages h v T low e) ∙ cell_tag t pages h v U low f

  -- two trees at one leaf are one
  same_leaf : (v : ℕ) (T U : Tree) → tag_of T ≡ tag_of U → Encodes t pages v zero T → Encodes t pages v zero U → T ≡ U
  same_leaf v T U g a b = grind arith

  -- two trees at one node are one
  pub one_encoded : (h v : ℕ) (T U : Tree) → h < 62 → Encodes t pages v h T → Encodes t pages v h U → T ≡ U
  one_encoded zero v T U low e f = same_leaf v T U (same_tag zero v T U low e f) e f
  one_encoded (suc h) v empty U low e f = absurd e.1
  one_encoded (suc h) v (cut c b) U low e f = absurd e.1
  one_encoded (suc h) v whole empty low e f = absurd f.1
  one_encoded (suc h) v whole (cut c b) low e f = absurd f.1
  one_encoded (suc h) v whole whole low e f = refl
  one_encoded (suc h) v whole (pair l r) low e f = absurd (omega (arith, same_tag (suc h) v whole (pair l r) low e f))
  one_encoded (suc h) v (pair l r) empty low e f = absurd f.1
  one_encoded (suc h) v (pair l r) (cut c b) low e f = absurd f.1
  one_encoded (suc h) v (pair l r) whole low e f = absurd (omega (arith, same_tag (suc h) v (pair l r) whole low e f))
  one_encoded (suc h) v (pair l r) (pair l' r') low e f =
      ap₂ pair (one_encoded h (2 * v) l l' (omega arith) e.2 f.2) (one_encoded h (2 * v + 1) r r' (omega arith) e.3 f.3)

-- a table stands for one set of live blocks at most
pub one_live_set : {m : ℕ} {L L' : Live} {t : List ℕ} → Stands m L t → Stands m L' t → L ≡ L'
one_live_set {m} {t = t} s z =
    let x = s.small_m in
    sym s.same ∙ (ap (λ (T : Tree). blocks m 0 T) (one_encoded t (2 ^ m) m 1 s.tree z.tree (omega arith) s.encodes z.encodes) ∙ z.same)

-- ---- a tree has one table and no more

-- each needed cell of a table that holds T is what the table of T has there
pub encoded_cells : (m : ℕ) (T : Tree) (t : List ℕ) → Encodes t (2 ^ m) 1 m T → get_or t 0 0 ≡ 0 → (i : ℕ) → i < need m → get_or t i 0 ≡ cell_at m T i
encoded_cells m T t e z zero l = z ∙ sym (cell_at_spare m T)
encoded_cells m T t e z (suc i) l = ⊎_elim bits node (le_or_lt (2 * 2 ^ m) (suc i))
  where
    node : suc i < 2 * 2 ^ m → get_or t (suc i) 0 ≡ cell_at m T (suc i)
    node b =
        let f = depth_found m (suc i) (omega arith) b in
        let d : ℕ = depth_of m (suc i) in
        let q : d + (m - d) ≡ m = omega (arith, f.2) in
        enc_cell t (2 ^ m) (suc i) (m - d) (part_at m d (suc i) T) (part_encodes m T t (2 ^ m) e d (m - d) (suc i) q f.0 f.1)
        ∙ sym (cell_at_node m T d (m - d) (suc i) q f.0 f.1)

    bits : 2 * 2 ^ m ≤ suc i → get_or t (suc i) 0 ≡ cell_at m T (suc i)
    bits b =
        let v : ℕ = suc i - 2 ^ m in
        let q : v + 2 ^ m ≡ suc i = omega arith in
        rw (← q) ((part_encodes m T t (2 ^ m) e m 0 v (omega arith) (omega arith) (omega arith)).3 ∙ sym (cell_at_bits m T v (omega arith) (omega arith)))

-- a set of live blocks has one table and no more: its needed cells are determined
pub one_table : {m : ℕ} {L : Live} {t t' : List ℕ} → Stands m L t → Stands m L t' → (i : ℕ) → i < need m → get_or t i 0 ≡ get_or t' i 0
one_table {m} {t = t} {t' = t'} s z i l =
    let e : s.tree ≡ z.tree = tree_unique (enc_wf t (2 ^ m) 1 m s.tree s.encodes) (enc_wf t' (2 ^ m) 1 m z.tree z.encodes) 0 (s.same ∙ sym z.same) in
    encoded_cells m s.tree t s.encodes s.spare i l ∙ (ap (λ (T : Tree). cell_at m T i) e ∙ sym (encoded_cells m z.tree t' z.encodes z.spare i l))

-- two tables of one set, none longer than needed, are one list
pub one_list : {m : ℕ} {L : Live} {t t' : List ℕ} → length t ≡ need m → length t' ≡ need m → Stands m L t → Stands m L t' → t ≡ t'
one_list {t = t} {t' = t'} n n' s z = ext_get_or 0 t t' (n ∙ sym n') (λ i l. one_table s z i (omega arith))

-- ---- every allowed set has a table

-- a list of n values has n elements
pub listed_length : (f : ℕ → ℕ) (i n : ℕ) → length (listed f i n) ≡ n
unfolding listed
listed_length f i zero = refl
listed_length f i (suc n) = ap suc (listed_length f (suc i) n)

-- its element j is the value j further on
pub listed_at : (f : ℕ → ℕ) (i n j : ℕ) → j < n → get_or (listed f i n) j 0 ≡ f (i + j)
unfolding listed
listed_at f i zero j l = absurd (omega arith)
listed_at f i (suc n) zero l = ap f (omega arith)
listed_at f i (suc n) (suc j) l = listed_at f (suc i) n j (omega arith) ∙ ap f (omega arith)

module _ (m : ℕ) (T : Tree) (w : WF m T) (t : List ℕ) (each : (i : ℕ) → i < need m → get_or t i 0 ≡ cell_at m T i) where
  -- a table with the cells of T holds each part of T at its node
  holds_part : (h d v : ℕ) → d + h ≡ m → 2 ^ d ≤ v → v < 2 * 2 ^ d → Encodes t (2 ^ m) v h (part_at m d v T)
  holds_part zero d v e a b =
      let q : d ≡ m = omega arith in
      let a' : 2 ^ m ≤ v = rw (← q) a in
      let b' : v < 2 * 2 ^ m = rw (← q) b in
      (each v (omega arith) ∙ cell_at_node m T d 0 v e a b, wf_fit (part_wf m T w d 0 v e a b), (a', b'), each (v + 2 ^ m) (omega arith) ∙ (cell_at_bits m T v a' b' ∙ ap (λ (k : ℕ). bits_of (part_at m k v T)) (sym q)))
  holds_part (suc h) d v e a b =
      let q = pow-succ' 2 d in (
        each v (omega (arith, pow_mono {i = d} {j = m} (omega arith))) ∙ cell_at_node m T d (suc h) v e a b,
        wf_fit (part_wf m T w d (suc h) v e a b),
        rw (part_left m T d h v (omega arith)) at (holds_part h (suc d) (2 * v) (omega arith) (omega arith) (omega arith)),
        rw (part_right m T d h v (omega arith)) at (holds_part h (suc d) (2 * v + 1) (omega arith) (omega arith) (omega arith)),
      )

  -- and T at the root
  pub holds_tree : Encodes t (2 ^ m) 1 m T
  unfolding part_at
  holds_tree = holds_part m 0 1 (omega arith) (omega arith) (omega arith)

  -- so it stands for the blocks of T
  pub stands_of_cells : m ≤ m_most → need m ≤ length t → Stands m (blocks m 0 T) t
  stands_of_cells s l = record { small_m = s; long = l; spare = each 0 (omega (arith, pow_pos m)) ∙ cell_at_spare m T; tree = T; encodes = holds_tree; same = refl }

-- every allowed set of live blocks has a table
pub some_table : {m : ℕ} {L : Live} → m ≤ m_most → Allowed m L → (t : List ℕ) × Stands m L t × (length t ≡ need m)
some_table {m} {L} s a =
    let x = tree_of a in
    let t : List ℕ = table_of m x.tree in
    let n : length t ≡ need m = listed_length (cell_at m x.tree) 0 (need m) in
    let each : (i : ℕ) → i < need m → get_or t i 0 ≡ cell_at m x.tree i = λ i l. listed_at (cell_at m x.tree) 0 (need m) i l ∙ ap (cell_at m x.tree) (omega arith) in
    (t, rw x.same at (stands_of_cells m x.tree x.wf t each s (omega arith)), n)

-- a table stands by its needed cells alone
pub beyond : {m : ℕ} {L : Live} {t t' : List ℕ} → ((i : ℕ) → i < need m → get_or t i 0 ≡ get_or t' i 0) → need m ≤ length t' → Stands m L t → Stands m L t'
beyond {m} {L} {t} {t'} f l s =
    rw s.same at (stands_of_cells m s.tree (enc_wf t (2 ^ m) 1 m s.tree s.encodes) t' (λ i b. sym (f i b) ∙ encoded_cells m s.tree t s.encodes s.spare i b) s.small_m l)

-- a longer table stands as its needed part does
pub stands_taken : {m : ℕ} {L : Live} (t : List ℕ) → need m ≤ length t → Stands m L t ↔ Stands m L (take (need m) t)
stands_taken {m} t l =
    let n : need m ≤ length (take (need m) t) = simp length-take (omega arith) in
    (beyond (λ i b. sym (get_or-take (need m) t i 0 b)) n, beyond (λ i b. get_or-take (need m) t i 0 b) l)
