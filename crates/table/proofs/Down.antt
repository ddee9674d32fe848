-- The way down: on any table whatever it stays below its node; on a table that holds a tree it finds the leftmost. Assumes nothing.
use Rattle.std.proofs.Common.{Bool, List, ◌*◌, ◌+◌, ◌-◌, ◌<◌, ◌^◌, ◌∙◌, ◌≡◌, ◌≤◌, add-mul, add-one, ap, arith, cond, false, get_or, ltb, mul_assoc, mul_comm, mul-le-mul_left, pow_mono, pow-suc, refl, suc, sym, true, zero, ℕ}
use Rattle.std.proofs.Math.Nat.{pow-succ'}
use Rattle.std.proofs.Math.Option.{Option, none, some}
use Rattle.cells.specs.Cell.{has_room_for, has_size}
use Rattle.digits.specs.Digits.{bit_at}
use Rattle.laws.proofs.Logic.{no_some}
use Rattle.meaning.specs.Blocks.{pages}
use Rattle.meaning.specs.Search.{has, or_else}
use Rattle.trees.proofs.Sums.{best_run}
use Rattle.trees.specs.Leftmost.{first_page, first_run, has_room}
use Rattle.trees.specs.Tree.{Tree, WF, cut, empty, is_empty, pair, whole}
use Rattle.table.proofs.Cells.{cell_mask, cell_room, enc_wf}
use Rattle.table.proofs.Nodes.{over_add}
use Rattle.table.proofs.Summaries.{mask_page, room_best}
use Rattle.table.specs.Table.{Encodes}
use Rattle.table.specs.Walks.{descended, over, turned}

-- ---- one number over another

-- n over nothing
pub over_zero : (n : ℕ) → n ≡ over n 0
over_zero n = omega (arith, over_add n 0)

-- ---- on any table

-- either half of a node is one of its two
turned_from : (x : Bool) (v : ℕ) → 2 * v ≤ turned x v
turned_from true v = omega arith
turned_from false v = omega arith

turned_to : (x : Bool) (v : ℕ) → turned x v + 1 ≤ 2 * (v + 1)
turned_to true v = omega arith
turned_to false v = omega arith

-- one level more is twice as many nodes
two_levels : (n v : ℕ) → 2 ^ suc n * v ≡ 2 ^ n * (2 * v)
two_levels n v = ap (λ (x : ℕ). x * v) (pow-suc 2 n) ∙ mul_assoc (2 ^ n) 2 v

-- the nodes n levels below the node v are those from 2 ^ n * v on, 2 ^ n of them
pub descended_from : (f : ℕ → Bool) (n : ℕ) (t : List ℕ) (v : ℕ) → 2 ^ n * v ≤ descended f n t v
descended_from f zero t v = omega arith
descended_from f (suc n) t v = omega (arith, two_levels n v, mul-le-mul_left (2 ^ n) (turned_from (f (get_or t (2 * v) 0)) v), descended_from f n t (turned (f (get_or t (2 * v) 0)) v))

pub descended_to : (f : ℕ → Bool) (n : ℕ) (t : List ℕ) (v : ℕ) → descended f n t v < 2 ^ n * (v + 1)
descended_to f zero t v = omega arith
descended_to f (suc n) t v = omega (arith, two_levels n (v + 1), mul-le-mul_left (2 ^ n) (turned_to (f (get_or t (2 * v) 0)) v), descended_to f n t (turned (f (get_or t (2 * v) 0)) v))

-- before the first turn of a loop over n levels
pub descended_begin : (f : ℕ → Bool) (n v : ℕ) (t : List ℕ) → descended f (n - 0) t v ≡ descended f n t v
descended_begin f n v t =
    let q : n - 0 ≡ n = omega arith in
    rw q refl

-- one turn of a loop that has gone d of n levels, by what the test says
descended_turn : (f : ℕ → Bool) (n d v : ℕ) (t : List ℕ) (x : Bool) → d < n → f (get_or t (2 * v) 0) ≡ x → descended f (n - (d + 1)) t (turned x v) ≡ descended f (n - d) t v
descended_turn f n d v t x l p =
    let q : n - d ≡ suc (n - (d + 1)) = omega arith in
    rw q (ap (λ (y : Bool). descended f (n - (d + 1)) t (turned y v)) (sym p))

-- to the left half where the test passes, to the right half where it fails
pub descended_left : (f : ℕ → Bool) (n d v : ℕ) (t : List ℕ) → d < n → f (get_or t (2 * v) 0) ≡ true → descended f (n - (d + 1)) t (2 * v) ≡ descended f (n - d) t v
descended_left f n d v t l p = descended_turn f n d v t true l p

pub descended_right : (f : ℕ → Bool) (n d v : ℕ) (t : List ℕ) → d < n → f (get_or t (2 * v) 0) ≡ false → descended f (n - (d + 1)) t (2 * v + 1) ≡ descended f (n - d) t v
descended_right f n d v t l p = descended_turn f n d v t false l p

-- after the last turn
pub descended_end : (f : ℕ → Bool) (n d v w : ℕ) (t : List ℕ) → n ≤ d → descended f (n - d) t v ≡ w → v ≡ w
descended_end f n d v w t l p =
    let q : n - d ≡ 0 = omega arith in
    rw q at p

-- the next power, and where it stands below the last
pub twice : (d : ℕ) → 2 ^ (d + 1) ≡ 2 * 2 ^ d
twice d = ap (λ (x : ℕ). 2 ^ x) (add-one d) ∙ pow-succ' 2 d

pub deeper : (d n : ℕ) → d < n → 2 * 2 ^ d ≤ 2 ^ n
deeper d n l = rw (← pow-succ' 2 d) (pow_mono l)

-- ---- on a table that holds a tree

-- the first of the nodes d levels below a half, and of the nodes d + 1 levels below the whole
pub left_of_lem : (v d : ℕ) → 2 * v * 2 ^ d ≡ v * 2 ^ suc d
left_of_lem v d = ap (λ (x : ℕ). x * 2 ^ d) (mul_comm 2 v) ∙ (mul_assoc v 2 (2 ^ d) ∙ ap (λ (x : ℕ). v * x) (sym (pow-succ' 2 d)))

pub right_of_lem : (v d : ℕ) → (2 * v + 1) * 2 ^ d ≡ v * 2 ^ suc d + 2 ^ d
right_of_lem v d = omega (arith, add-mul (2 * v) 1 (2 ^ d), left_of_lem v d)

-- A search of trees that looks to the left half first, and a test of cells that tells whether it finds something. The search gives the number of what it finds, d levels down, i being the number of the first there.
module _
    (t : List ℕ)
    (pages k : ℕ)
    (f : ℕ → Bool)
    (search_in : ℕ → ℕ → Tree → Option ℕ)
    (sees : (d v i : ℕ) (T : Tree) → over d k < 62 → Encodes t pages v (over d k) T → f (get_or t v 0) ≡ has (search_in d i T))
    (at_end : (i j : ℕ) (T : Tree) → WF k T → search_in 0 i T ≡ some j → i ≡ j)
    (in_whole : (d i : ℕ) → search_in (suc d) i whole ≡ none)
    (in_pair : (d i : ℕ) (l r : Tree) → search_in (suc d) i (pair l r) ≡ or_else (search_in d i l) (search_in d (i + 2 ^ d) r))
  where
    -- going down by the test gets to what the search finds
    descended_finds : (d v i j : ℕ) (T : Tree) → over d k < 62 → Encodes t pages v (over d k) T → search_in d i T ≡ some j → descended f d t v + i ≡ v * 2 ^ d + j
    descended_finds zero v i j T low e s = omega (arith, at_end i j T (enc_wf t pages v k T e) s)
    descended_finds (suc d) v i j empty low e s = absurd e.1
    descended_finds (suc d) v i j (cut c b) low e s = absurd e.1
    descended_finds (suc d) v i j whole low e s = no_some (sym (in_whole d i) ∙ s)
    descended_finds (suc d) v i j (pair l r) low e s = go (search_in d i l) refl (descended_finds d (2 * v) i j l (omega arith) e.2) (descended_finds d (2 * v + 1) (i + 2 ^ d) j r (omega arith) e.3)
      where
        found : or_else (search_in d i l) (search_in d (i + 2 ^ d) r) ≡ some j
        found = sym (in_pair d i l r) ∙ s

        test : f (get_or t (2 * v) 0) ≡ has (search_in d i l)
        test = sees d (2 * v) i l (omega arith) e.2

        go : (o : Option ℕ) → search_in d i l ≡ o
            → (search_in d i l ≡ some j → descended f d t (2 * v) + i ≡ 2 * v * 2 ^ d + j)
            → (search_in d (i + 2 ^ d) r ≡ some j → descended f d t (2 * v + 1) + (i + 2 ^ d) ≡ (2 * v + 1) * 2 ^ d + j)
            → descended f d t (turned (f (get_or t (2 * v) 0)) v) + i ≡ v * 2 ^ suc d + j
        go none g a b =
            let way : f (get_or t (2 * v) 0) ≡ false = test ∙ unfold has in ap has g in
            let right = b (unfold or_else in rw g at found) in
            rw way (omega (arith, right_of_lem v d))
        go (some n) g a b =
            let way : f (get_or t (2 * v) 0) ≡ true = test ∙ unfold has in ap has g in
            let left = a (g ∙ unfold or_else in rw g at found) in
            rw way (omega (arith, left_of_lem v d))

-- the test of a cell for room tells whether there is a free run
pub room_run : (t : List ℕ) (pages k d v i : ℕ) (T : Tree) → over d k < 62 → Encodes t pages v (over d k) T → has_room_for k (get_or t v 0) ≡ has (first_run d i T)
room_run t pages k d v i T low e =
    let w = enc_wf t pages v (over d k) T e in
    ap (ltb k) (cell_room t pages (over d k) v T low e ∙ room_best w) ∙ sym (best_run w k d i (omega (arith, over_add d k)))

-- the test of a cell for a size tells whether there is a page that serves it and has a slot
pub size_page : (t : List ℕ) (pages c h v q : ℕ) (T : Tree) → h < 62 → Encodes t pages v h T → has_size c (get_or t v 0) ≡ has (first_page (has_room c) h q T)
size_page t pages c h v q T low e = ap (bit_at c) (cell_mask t pages h v T low e) ∙ mask_page c (enc_wf t pages v h T e) q

-- what is found where one stands has that number
here_some : (x : Bool) (i j : ℕ) → cond x (some i) none ≡ some j → i ≡ j
here_some true i j s = cc
here_some false i j s = no_some s

-- going down by the room for 2 ^ k pages gets to the leftmost free run of 2 ^ k pages
pub descended_run : (t : List ℕ) (pages k d v i j : ℕ) (T : Tree) → over d k < 62 → Encodes t pages v (over d k) T → first_run d i T ≡ some j → descended (has_room_for k) d t v + i ≡ v * 2 ^ d + j
descended_run t pages k = descended_finds t pages k (has_room_for k) first_run
    (λ d v i T low e. room_run t pages k d v i T low e)
    (λ i j T w s. unfold first_run in here_some (is_empty T) i j s)
    (λ d i. unfold first_run in refl)
    (λ d i l r. unfold first_run in refl)

-- and so at a page
page_end : (f : Tree → Bool) {i j : ℕ} {T : Tree} → WF 0 T → first_page f 0 i T ≡ some j → i ≡ j
unfolding first_page
page_end f w e = grind arith

-- going down by a size gets to the leftmost page that serves it and has a slot
pub descended_page : (t : List ℕ) (pages c h v q p : ℕ) (T : Tree) → h < 62 → Encodes t pages v h T → first_page (has_room c) h q T ≡ some p → descended (has_size c) h t v + q ≡ v * 2 ^ h + p
descended_page t pages c h v q p T low e s =
    descended_finds t pages 0 (has_size c) (first_page (has_room c))
    (λ d u i S l x. size_page t pages c d u i S (rw (over_zero d) l) (rw (over_zero d) x))
    (λ i j S w x. page_end (has_room c) w x)
    (λ d i. unfold first_page in refl)
    (λ d i l r. unfold first_page in refl)
    h v q p T (rw (over_zero h) at low) (rw (over_zero h) at e) s
