-- Take of a small block: what the root's cell and the way down say of the slot that a take is given. Assumes nothing.
use Rattle.std.proofs.Common.{List, ◌+◌, ◌-◌, ◌<◌, ◌^◌, ◌∙◌, ◌≡◌, ap, arith, get_or, ltb, refl, subst, sym, true, ℕ}
use Rattle.std.proofs.Math.Option.{Option, none, some}
use Rattle.cells.specs.Cell.{has_room_for, has_size, room_in, tag_in}
use Rattle.digits.specs.Digits.{First}
use Rattle.laws.proofs.Logic.{and_left, bind_some, has_bind}
use Rattle.laws.proofs.Searches.{lowest_found}
use Rattle.laws.proofs.Sizes.{slots_most}
use Rattle.meaning.specs.Answers.{clear, free, fresh_place, has_slot, lowest_slot, served_place, serves}
use Rattle.meaning.specs.Blocks.{Block, Live, size_count, slot, slots, small}
use Rattle.meaning.specs.Search.{bind, has, least, lowest}
use Rattle.trees.proofs.Pages.{first_free, first_with_slot}
use Rattle.trees.proofs.Places.{Page, Room, page_at, page_lowest_slot, room_of_lem, zero_digit}
use Rattle.trees.specs.Change.{Change}
use Rattle.trees.specs.Leftmost.{first_page, first_run, has_room, lowest_zero}
use Rattle.trees.specs.Tree.{cut, empty}
use Rattle.table.proofs.Cells.{cell_tag}
use Rattle.table.proofs.Down.{descended_page, descended_run, over_zero, room_run, size_page}
use Rattle.table.proofs.Found.{run_cell}
use Rattle.table.proofs.Mended.{part_there}
use Rattle.table.proofs.Standing.{stands_low, stands_root, stands_wf}
use Rattle.table.proofs.Summaries.{free_page_run, open_bit}
use Rattle.table.specs.Table.{Stands, open_bits}
use Rattle.table.specs.Walks.{descended}

-- the slot that is found in a page that serves the size, at the leaf w
pub record SlotFound (m : ℕ) (L : Live) (t : List ℕ) (c w : ℕ) (b : Block) : Type 0 where
  pub i : ℕ
  pub tag : tag_in (get_or t w 0) ≡ c + 1
  pub lowest_open : First (get_or t (w + 2 ^ m) 0) i
  pub slot_of_page : i < slots c
  pub place : b ≡ slot c (w - 2 ^ m) i
  pub serving : serves L (small c) (w - 2 ^ m) ≡ true
  pub not_live : clear L b ≡ true

-- the slot that is found in a free page, at the leaf w
pub record PageFound (m : ℕ) (L : Live) (t : List ℕ) (c w : ℕ) (b : Block) : Type 0 where
  pub place : b ≡ slot c (w - 2 ^ m) 0
  pub not_live : free L (w - 2 ^ m) ≡ true
  pub cell : get_or t w 0 ≡ 1

-- the lowest slot that is not live is the lowest digit 1 of the bitmap
pub first_open : (c taken i : ℕ) → taken < 2 ^ slots c → lowest_zero (slots c) taken ≡ some i → First (open_bits c taken) i
unfolding lowest_zero least
first_open c taken i l f =
    let g = lowest_found _ 0 (slots c) i f in
    record {
      within = omega (arith, g.below, slots_most c);
      there = open_bit c taken i l (omega (arith, g.below)) ∙ g.passes;
      first = λ j a. open_bit c taken j l (omega (arith, g.below)) ∙ g.first j (omega arith) a;
    }

-- what the searches of the meaning find passes
page_serves : (L : Live) (c q n : ℕ) → least (has_slot L c) n ≡ some q → serves L (small c) q ≡ true
unfolding least has_slot
page_serves L c q n f = and_left (serves L (small c) q) (has (lowest_slot L c q)) (lowest_found (has_slot L c) 0 n q f).passes

page_free : (L : Live) (q n : ℕ) → least (free L) n ≡ some q → free L q ≡ true
unfolding least
page_free L q n f = (lowest_found (free L) 0 n q f).passes

slot_clear : (L : Live) (c q i : ℕ) → lowest_slot L c q ≡ some i → clear L (slot c q i) ≡ true
unfolding least lowest_slot
slot_clear L c q i f = (lowest_found _ 0 (slots c) i f).passes

module _ {m : ℕ} {L : Live} {t : List ℕ} (s : Stands m L t) where
  -- ---- a page that serves the size

  -- the lowest page that serves the size and has a slot is the leftmost of the tree
  served_page : (c : ℕ) → c < size_count → least (has_slot L c) (2 ^ m) ≡ first_page (has_room c) m 0 s.tree
  unfolding least
  served_page c l = subst (λ (x : Live). lowest (has_slot x c) 0 (2 ^ m) ≡ first_page (has_room c) m 0 s.tree) s.same (first_with_slot c l (stands_wf s) 0)

  -- and its lowest slot that is not live
  pub record ServedAt (c q : ℕ) : Type 0 where
    pub page : Page (has_room c) m 0 q s.tree
    pub room : Room c page.at.old
    pub slot_there : lowest_slot L c q ≡ some room.t

  -- it stands in the tree
  served_at : (c q : ℕ) → first_page (has_room c) m 0 s.tree ≡ some q → ServedAt c q
  served_at c q f =
      let p = page_at (has_room c) (stands_wf s) 0 f in
      let r = room_of_lem c p.at.old p.passes in
      record { page = p; room = r; slot_there = subst (λ (x : Live). lowest_slot x c q ≡ some r.t) s.same (page_lowest_slot c r.bits (stands_wf s) p.at r.is_cut ∙ r.digit) }

  -- the root's mask says whether there is such a page
  pub root_size : (c : ℕ) → c < size_count → has_size c (get_or t 1 0) ≡ has (served_place m L c)
  unfolding served_place bind has
  root_size c l = size_page t (2 ^ m) c m 1 0 s.tree (stands_low s) s.encodes ∙ go (first_page (has_room c) m 0 s.tree) refl
    where
      go : (o : Option ℕ) → first_page (has_room c) m 0 s.tree ≡ o → has (first_page (has_room c) m 0 s.tree) ≡ has (bind (least (has_slot L c) (2 ^ m)) (λ q. bind (lowest_slot L c q) (λ i. some (slot c q i))))
      go none f = rw (served_page c l, f) refl
      go (some q) f = rw (served_page c l, f, (served_at c q f).slot_there) refl

  -- the way down by the size gets to it
  pub slot_found : (c : ℕ) → c < size_count → {b : Block} → served_place m L c ≡ some b → (w : ℕ) → w ≡ descended (has_size c) m t 1 → SlotFound m L t c w b
  unfolding served_place bind
  slot_found c l {b} f w n =
      let g = bind_some (least (has_slot L c) (2 ^ m)) (λ q. bind (lowest_slot L c q) (λ i. some (slot c q i))) f in
      let q : ℕ = g.0 in
      let page : first_page (has_room c) m 0 s.tree ≡ some q = sym (served_page c l) ∙ g.1 in
      let a = served_at c q page in
      let taken : ℕ = a.room.bits in
      let h : some (slot c q a.room.t) ≡ some b = rw a.slot_there at g.2 in
      let same : slot c q a.room.t ≡ b = cc in
      let node = descended_page t (2 ^ m) c m 1 0 q s.tree (stands_low s) s.encodes page in
      let number : q ≡ w - 2 ^ m = omega arith in
      let change : Change q (cut c taken) empty m 0 s.tree (a.page.at.new empty) = rw a.room.is_cut at (a.page.at.change empty) in
      let part = part_there t (2 ^ m) w 1 0 change (omega arith) (stands_root s 0 m (omega arith)) in
      record {
        i = a.room.t;
        tag = cell_tag t (2 ^ m) 0 w (cut c taken) (omega arith) part;
        lowest_open = rw part.3 (first_open c taken a.room.t part.1.2 a.room.digit);
        slot_of_page = (zero_digit (slots c) taken a.room.t a.room.digit).0;
        place = sym same ∙ ap (λ (x : ℕ). slot c x a.room.t) number;
        serving = rw number at (page_serves L c q (2 ^ m) g.1);
        not_live = rw (← same) (slot_clear L c q a.room.t a.slot_there);
      }

  -- ---- a free page

  -- the lowest free page is the leftmost of the tree
  free_page : least (free L) (2 ^ m) ≡ first_run m 0 s.tree
  unfolding least
  free_page = subst (λ (x : Live). lowest (free x) 0 (2 ^ m) ≡ first_run m 0 s.tree) s.same (first_free (stands_wf s) 0 ∙ free_page_run (stands_wf s) 0)

  -- the root's room says whether there is one
  pub root_fresh : (c : ℕ) → ltb 0 (room_in (get_or t 1 0)) ≡ has (fresh_place m L c)
  unfolding fresh_place
  root_fresh c =
      room_run t (2 ^ m) 0 m 1 0 s.tree (rw (over_zero m) at (stands_low s)) (stands_root s 0 m (omega arith))
      ∙ sym (has_bind (least (free L) (2 ^ m)) _ ∙ ap has free_page)

  -- the way down by room gets to the lowest
  pub fresh_found : (c : ℕ) {b : Block} → fresh_place m L c ≡ some b → (w : ℕ) → w ≡ descended (has_room_for 0) m t 1 → PageFound m L t c w b
  unfolding fresh_place
  fresh_found c {b} f w n =
      let g = bind_some (least (free L) (2 ^ m)) (λ q. some (slot c q 0)) f in
      let run : first_run m 0 s.tree ≡ some g.0 = sym free_page ∙ g.1 in
      let node = descended_run t (2 ^ m) 0 m 1 0 g.0 s.tree (rw (over_zero m) at (stands_low s)) (stands_root s 0 m (omega arith)) run in
      let h : some (slot c g.0 0) ≡ some b = g.2 in
      let same : slot c g.0 0 ≡ b = cc in
      let number : g.0 ≡ w - 2 ^ m = omega arith in
      record {
        place = sym same ∙ ap (λ (x : ℕ). slot c x 0) number;
        not_live = rw number at (page_free L g.0 (2 ^ m) g.1);
        cell = run_cell s 0 m g.0 w (omega arith) run (omega arith);
      }
