-- Give back and which: what the way up from the leaf of a byte says of the live block that holds the byte, or starts there. Assumes nothing.
use Rattle.std.proofs.Common.{List, ◌&&◌, ◌+◌, ◌-◌, ◌/◌, ◌<◌, ◌^◌, ◌∙◌, ◌≡◌, ◌≢◌, ◌≤◌, ◌⊎◌, ap, arith, cond, eq-eqb, eqb-true, false, get_or, inl, inr, le-ltb, leb, lt-ltb, ltb, ltb-true, ne_eqb, not, refl, subst, suc, sym, true, ℕ, ⊎_elim}
use Rattle.std.proofs.Math.Option.{Option, none, some}
use Rattle.std.proofs.lemmas.Bool.{not-false, not-true}
use Rattle.cells.specs.Cell.{tag_in, whole_tag}
use Rattle.digits.specs.Digits.{bit_at}
use Rattle.laws.proofs.Allowing.{block_size}
use Rattle.laws.proofs.Logic.{and_false, and_right, le_or_lt, split}
use Rattle.meaning.specs.Answers.{holds, starts_at}
use Rattle.meaning.specs.Blocks.{Allowed, BeforeAll, Block, Live, allowed_none, allowed_some, arena, before_none, before_some, ends, large, page_bytes, size_count, slot, slots}
use Rattle.meaning.specs.Search.{find}
use Rattle.table.proofs.Sights.{Sight, block_holds, sees_large, sees_none, sees_page, slot_of, tree_sight}
use Rattle.table.proofs.Standing.{stands_low}
use Rattle.table.proofs.Summaries.{open_bit}
use Rattle.table.specs.Table.{Stands, open_bits}
use Rattle.table.specs.Walks.{above, located}

-- ---- the block that holds byte o

-- the page of byte o serves size number c: its slot is live, or not, or there is none
pub record InPage (m : ℕ) (L : Live) (t : List ℕ) (o h v c : ℕ) : Type 0 where
  pub leaf : h ≡ 0
  pub size : c < size_count
  pub held : slot_of c o < slots c → bit_at (slot_of c o) (get_or t (v + 2 ^ m) 0) ≡ false → find (holds o) L ≡ some (slot c (o / page_bytes) (slot_of c o))
  pub idle : bit_at (slot_of c o) (get_or t (v + 2 ^ m) 0) ≡ true → find (holds o) L ≡ none
  pub past : slots c ≤ slot_of c o → find (holds o) L ≡ none

-- what is seen of a page says so
in_page : (m : ℕ) (L : Live) (t : List ℕ) (o h v c taken : ℕ) → h ≡ 0 → c < size_count → taken < 2 ^ slots c → get_or t (v + 2 ^ m) 0 ≡ open_bits c taken
    → find (holds o) L ≡ cond (ltb (slot_of c o) (slots c) && bit_at (slot_of c o) taken) (some (slot c (o / page_bytes) (slot_of c o))) none
    → InPage m L t o h v c
in_page m L t o h v c taken a x y b f = record {
  leaf = a;
  size = x;
  held = λ l z. f ∙ rw (lt-ltb (slot_of c o) (slots c) l, not-false (bit_at (slot_of c o) taken) (digit l ∙ z)) refl;
  idle = λ z. ⊎_elim past (λ (l : slot_of c o < slots c). f ∙ rw (not-true (bit_at (slot_of c o) taken) (digit l ∙ z), and_false (ltb (slot_of c o) (slots c))) refl) (le_or_lt (slots c) (slot_of c o));
  past = past;
}
  where
    digit : slot_of c o < slots c → not (bit_at (slot_of c o) taken) ≡ bit_at (slot_of c o) (get_or t (v + 2 ^ m) 0)
    digit l = sym (ap (bit_at (slot_of c o)) b ∙ open_bit c taken (slot_of c o) y l)

    past : slots c ≤ slot_of c o → find (holds o) L ≡ none
    past l = f ∙ rw (le-ltb (slot_of c o) (slots c) l) refl

module _ {m : ℕ} {L : Live} {t : List ℕ} (s : Stands m L t) (o h v : ℕ) (inside : o < arena m)
    (found : h ≡ located (suc m) t (2 ^ m + o / page_bytes) 0) (node : v ≡ above h (2 ^ m + o / page_bytes))
  where
    -- what the table shows at the byte
    pub sight : Sight m L t o h v
    sight = subst (λ (x : Live). Sight m x t o h v) s.same
        (tree_sight m t o (stands_low s) (2 ^ m + o / page_bytes) h v found node s.tree s.encodes inside refl)

    -- no node has a tag: no live block holds the byte
    pub located_none : m < h → find (holds o) L ≡ none
    located_none l = go sight
      where
        go : Sight m L t o h v → find (holds o) L ≡ none
        go (sees_none a f) = f
        go (sees_large a g f) = absurd (omega arith)
        go (sees_page c taken a x y g b f) = absurd (omega arith)

    -- the node is a large block: it holds the byte
    pub located_large : h ≤ m → tag_in (get_or t v 0) ≡ whole_tag → find (holds o) L ≡ some (large h (v - 2 ^ (m - h)))
    located_large l w = go sight
      where
        go : Sight m L t o h v → find (holds o) L ≡ some (large h (v - 2 ^ (m - h)))
        go (sees_none a f) = absurd (omega arith)
        go (sees_large a g f) = f
        go (sees_page c taken a x y g b f) = absurd (omega arith)

    -- the node has another tag: it is a page that serves a size
    pub located_small : (c : ℕ) → h ≤ m → tag_in (get_or t v 0) ≡ c + 1 → tag_in (get_or t v 0) ≢ whole_tag → InPage m L t o h v c
    located_small c l w n = go sight
      where
        go : Sight m L t o h v → InPage m L t o h v c
        go (sees_none a f) = absurd (omega arith)
        go (sees_large a g f) = absurd (n g)
        go (sees_page d taken a x y g b f) = let same : d ≡ c = omega arith in subst (λ z. InPage m L t o h v z) same (in_page m L t o h v d taken a x y b f)

-- ---- the block that starts at byte o

-- of what holds byte o, what starts there
unfoldable pub starts_here : ℕ → Option Block → Option Block
starts_here o none = none
starts_here o (some b) = cond (starts_at o b) (some b) none

-- no block that comes after one that holds byte o starts there
none_later : {b : Block} {L : Live} (o : ℕ) → BeforeAll b L → o < ends b → find (starts_at o) L ≡ none
unfolding find starts_at
none_later o before_none l = refl
none_later o (before_some {b' = x} h r) l = rw (ne_eqb x.start o (omega (arith, h.apart))) (none_later o r l)

-- of an allowed set, the block that starts at a byte is the one that holds it, if that starts there
pub starts_of_holds : {m : ℕ} {L : Live} (o : ℕ) → Allowed m L → find (starts_at o) L ≡ starts_here o (find (holds o) L)
unfolding find starts_here starts_at holds
starts_of_holds o allowed_none = refl
starts_of_holds o (allowed_some {b = b} {L = L} i f a) = go (split (starts_at o b)) (split (holds o b)) (starts_of_holds o a)
  where
    go : (starts_at o b ≡ true) ⊎ (starts_at o b ≡ false) → (holds o b ≡ true) ⊎ (holds o b ≡ false) → find (starts_at o) L ≡ starts_here o (find (holds o) L)
        → cond (starts_at o b) (some b) (find (starts_at o) L) ≡ starts_here o (cond (holds o b) (some b) (find (holds o) L))
    go (inl x) y ih =
        let here = eqb-true b.start o x in
        rw (x, block_holds o b (omega arith) (omega (arith, block_size i))) (rw x refl)
    go (inr x) (inl y) ih = rw (x, y) (rw x (none_later o f (ltb-true o (ends b) (and_right (leb b.start o) (ltb o (ends b)) y))))
    go (inr x) (inr y) ih = rw (x, y) ih

module _ {m : ℕ} {L : Live} (o : ℕ) (a : Allowed m L) where
  -- where no block holds the byte, none starts there
  pub starts_none : find (holds o) L ≡ none → find (starts_at o) L ≡ none
  unfolding starts_here
  starts_none f = starts_of_holds o a ∙ rw f refl

  -- the block that holds the byte starts there
  pub starts_here_lem : {b : Block} → find (holds o) L ≡ some b → b.start ≡ o → find (starts_at o) L ≡ some b
  unfolding starts_here starts_at
  starts_here_lem {b} f e = starts_of_holds o a ∙ rw (f, eq-eqb b.start o e) refl

  -- the block that holds the byte starts elsewhere
  pub starts_elsewhere : {b : Block} → find (holds o) L ≡ some b → b.start ≢ o → find (starts_at o) L ≡ none
  unfolding starts_here starts_at
  starts_elsewhere {b} f n = starts_of_holds o a ∙ rw (f, ne_eqb b.start o n) refl
