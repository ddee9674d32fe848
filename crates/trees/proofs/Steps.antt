-- A take or a give back as the replacement of one part of the tree. Assumes nothing.
use Rattle.std.proofs.Common.{[], ◌*◌, ◌+◌, ◌<◌, ◌^◌, ◌∙◌, ◌≡◌, ap, ap₂, arith, eqb, eqb-true, false, mul-one, ne_eqb, pow_pos, refl, sym, true, zero-add, zero-mul, ℕ, ⊎_elim}
use Rattle.std.proofs.lemmas.Bool.{eqb-false, not-true}
use Rattle.digits.proofs.Digits.{bit_zero}
use Rattle.digits.specs.Digits.{bit_at}
use Rattle.laws.proofs.Logic.{and_left, and_right, contra, split}
use Rattle.laws.proofs.Sizes.{slot_in, slots_two, small_inj, small_pos}
use Rattle.meaning.specs.Answers.{clear, free, insert, serves}
use Rattle.meaning.specs.Blocks.{Live, large, page_bytes, pages, size_count, slot, slots, small}
use Rattle.meaning.specs.Search.{any}
use Rattle.trees.proofs.Changes.{change_insert, no_blocks, vacant_empty, vacant_wf}
use Rattle.trees.proofs.Exists.{at_free, serves_at}
use Rattle.trees.proofs.Places.{clear_at, old_wf, page_clear, page_insert, page_old, slots_none}
use Rattle.trees.proofs.Slots.{slots_clear, slots_insert, slots_serve_not}
use Rattle.trees.proofs.Within.{clear_all, clear_head}
use Rattle.trees.specs.Change.{At, Change}
use Rattle.trees.specs.Tree.{Tree, WF, blocks, cut, empty, is_empty, pair, vacant, wf_cut, wf_empty, wf_pair, wf_whole, whole}

-- the tree T of height m with N in the place of its part S, number j of those d levels down, has the blocks L
pub record Step (m d j : ℕ) (T S N : Tree) (L : Live) : Type 0 where
  pub tree : Tree
  pub change : Change j S N d 0 T tree
  pub same : blocks m 0 tree ≡ L

-- ---- taking

-- an empty tree is the vacant one of its height
pub is_vacant : {h : ℕ} {T : Tree} → WF h T → is_empty T ≡ true → T ≡ vacant h
unfolding vacant is_empty
is_vacant wf_empty e = refl
is_vacant (wf_cut a b c) e = contra e refl
is_vacant wf_whole e = contra e refl
is_vacant (wf_pair {l = l} {r = r} u v) e = ap₂ pair (is_vacant u (and_left (is_empty l) (is_empty r) e)) (is_vacant v (and_right (is_empty l) (is_empty r) e))

-- a run whose pages are all free is a vacant part, and anything may be put there
record FreeRun (k d j : ℕ) (T : Tree) : Type 0 where
  at : At d 0 j T
  vacant_there : at.old ≡ vacant k

-- such a run is there
free_run : {m : ℕ} {T : Tree} (k d j : ℕ) → WF m T → m ≡ k + d → j < 2 ^ d → clear (blocks m 0 T) (large k j) ≡ true → FreeRun k d j T
free_run {m} {T} k d j w e l c =
    let z : 0 * 2 ^ k ≡ 0 = zero-mul (2 ^ k) in
    let x : At d 0 j T = at_free w k d 0 j e (omega arith) (omega arith) (large k j) (omega arith) (omega (arith, pow_pos k)) (omega arith) (rw z c) in
    let s = x.change whole in
    let o : is_empty x.old ≡ true = sym (clear_all (old_wf s w e) (j * 2 ^ k) (large k j) (omega arith) (omega arith)) ∙ (sym (clear_at k s w e (large k j) (omega arith) (omega arith)) ∙ rw z c) in
    record { at = x; vacant_there = is_vacant (old_wf s w e) o }

-- a free run becomes a large block
pub take_run_step : {m : ℕ} {T : Tree} (k d j : ℕ) → WF m T → m ≡ k + d → j < 2 ^ d → clear (blocks m 0 T) (large k j) ≡ true → Step m d j T (vacant k) whole (insert (large k j) (blocks m 0 T))
take_run_step {m} {T} k d j w e l c =
    let x = free_run k d j w e l c in
    let s : Change j (vacant k) whole d 0 T (x.at.new whole) = rw x.vacant_there at (x.at.change whole) in
    let z : 0 * 2 ^ k ≡ 0 = zero-mul (2 ^ k) in
    record {
      tree = x.at.new whole;
      change = s;
      same = rw z at (change_insert k s w e (large k j) (omega arith) (omega (arith, pow_pos k))
          (sym (ap (λ (y : Live). insert (large k j) y) (no_blocks (vacant_wf k) (vacant_empty k) (j * 2 ^ k)) ∙ unfold blocks insert in refl)));
    }

-- a slot starts in its page
in_page : (c q i : ℕ) → i < slots c → (slot c q i).start < page_bytes * q + page_bytes
in_page c q i l = omega (arith, slot_in c i l, small_pos c)

-- a free page serves a size from its first slot on
pub take_page_step : {m : ℕ} {T : Tree} (c q : ℕ) → WF m T → c < size_count → q < 2 ^ m → free (blocks m 0 T) q ≡ true → Step m m q T empty (cut c 1) (insert (slot c q 0) (blocks m 0 T))
unfolding free
take_page_step {m} {T} c q w a l f =
    let o : q * 1 ≡ q = mul-one q in
    let x = free_run 0 m q w (omega arith) l (rw o f) in
    let s : Change q empty (cut c 1) m 0 T (x.at.new (cut c 1)) = unfold vacant in rw x.vacant_there at (x.at.change (cut c 1)) in
    record {
      tree = x.at.new (cut c 1);
      change = s;
      same = page_insert s w (slot c q 0) (omega arith) (in_page c q 0 (omega (arith, slots_two c)))
          (unfold blocks in simp (zero-add, slots_none) at (slots_insert c q (slots c) 0 0 0 (omega arith) (omega (arith, slots_two c)) (bit_zero 0)));
    }

-- the part of a page that serves size number c: its taken slots are `bits`, and slot i is not one of them
pub record TakeSlot (m c q i : ℕ) (T : Tree) : Type 0 where
  pub bits : ℕ
  pub not_taken : bit_at i bits ≡ false
  pub step : Step m m q T (cut c bits) (cut c (bits + 2 ^ i)) (insert (slot c q i) (blocks m 0 T))

-- a slot that is not live, of a page that serves its size, is taken
pub take_slot_step : {m : ℕ} {T : Tree} (c q i : ℕ) → WF m T → c < size_count → q < 2 ^ m → i < slots c → serves (blocks m 0 T) (small c) q ≡ true → clear (blocks m 0 T) (slot c q i) ≡ true → TakeSlot m c q i T
unfolding blocks
take_slot_step {m} {T} c q i w c< q< i< sv cl = go refl (page_old (x.change empty) w)
  where
    x : At m 0 q T
    x = at_free w 0 m 0 q (omega arith) (omega arith) (omega arith) (slot c q i) (omega arith) (omega (arith, small_pos c)) (omega (arith, slot_in c i i<)) cl

    there : {S : Tree} → x.old ≡ S → clear (blocks 0 q S) (slot c q i) ≡ true
    there e = sym (page_clear (rw e at (x.change empty)) w (slot c q i) (omega arith) (omega (arith, slot_in c i i<))) ∙ cl

    serving : {S : Tree} → x.old ≡ S → serves (blocks 0 q S) (small c) q ≡ true
    serving e = sym (simp mul-one at (serves_at 0 (small c) q (rw e at (x.change empty)) w (omega arith) (omega arith) (omega arith))) ∙ sv

    go : {S : Tree} → x.old ≡ S → WF 0 S → TakeSlot m c q i T
    go e wf_empty = contra (serving e) (unfold serves any in refl)
    go e wf_whole = contra (there e) (clear_head (pages q 1) (slot c q i) [] (in_page c q i i<) (omega (arith, small_pos c)))
    go e (wf_cut {c = d} {bits = bits} a p l) =
        let same : d ≡ c = ⊎_elim (λ (t : eqb d c ≡ true). eqb-true d c t)
        (λ (t : eqb d c ≡ false). contra (serving e) (slots_serve_not d q (slots d) 0 bits (small c) (ne_eqb (small d) (small c) (λ z. eqb-false d c t (small_inj d c a c< z)))))
        (split (eqb d c)) in
        let e' : x.old ≡ cut c bits = e ∙ ap (λ y. cut y bits) same in
        let z : bit_at i bits ≡ false = not-true (bit_at i bits) (sym (rw (zero-add i) at (slots_clear c q (slots c) 0 bits i (omega arith) i<)) ∙ (there e')) in
        let s : Change q (cut c bits) (cut c (bits + 2 ^ i)) m 0 T (x.new (cut c (bits + 2 ^ i))) = rw e' at (x.change (cut c (bits + 2 ^ i))) in
        record {
          bits = bits;
          not_taken = z;
          step = record {
            tree = x.new (cut c (bits + 2 ^ i));
            change = s;
            same = page_insert s w (slot c q i) (omega arith) (in_page c q i i<)
                (rw (zero-add i) at (slots_insert c q (slots c) 0 bits i (omega arith) i< z));
          };
        }
