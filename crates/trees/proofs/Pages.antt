-- The leftmost page of a tree that passes a test is the lowest one of its blocks. Assumes nothing.
use Rattle.std.proofs.Common.{Bool, [], ◌&&◌, ◌*◌, ◌++◌, ◌+◌, ◌<◌, ◌^◌, ◌||◌, ◌∙◌, ◌∷◌, ◌≡◌, ◌≢◌, ◌≤◌, ◌⊎◌, ap, ap₂, arith, eqb, eqb-true, false, inl, inr, ne_eqb, pow-suc, refl, suc, true, zero-add, ℕ}
use Rattle.std.proofs.Math.Option.{Option}
use Rattle.std.proofs.lemmas.Bool.{eqb-false}
use Rattle.laws.proofs.Lists.{any_append}
use Rattle.laws.proofs.Logic.{or_false, split}
use Rattle.laws.proofs.Searches.{lowest_cong, lowest_isnt, lowest_parts}
use Rattle.laws.proofs.Sizes.{slot_in, small_inj, small_most_lem}
use Rattle.meaning.specs.Answers.{clear, free, has_slot, lowest_slot, serves}
use Rattle.meaning.specs.Blocks.{Live, page_bytes, pages, size_count, slot, slots, small}
use Rattle.meaning.specs.Search.{any, every, has, least, lowest, or_else}
use Rattle.trees.proofs.Runs.{clear_left, clear_right}
use Rattle.trees.proofs.Slots.{serves_outside, slots_clear, slots_serve, slots_serve_not}
use Rattle.trees.proofs.Within.{Within, blocks_within, clear_all, clear_head}
use Rattle.trees.specs.Leftmost.{first_page, has_room, lowest_zero}
use Rattle.trees.specs.Tree.{Tree, WF, blocks, cut, empty, is_empty, slot_blocks, wf_cut, wf_empty, wf_pair, wf_whole}

-- a test of a page that looks only at what lies in the page, and fails inside a large block
pub record Local (P : Live → ℕ → Bool) : Type 0 where
  pub at_left : {mid hi : ℕ} (x : Live) {y : Live} → Within mid hi y → (q : ℕ) → page_bytes * q + page_bytes ≤ mid → P (x ++ y) q ≡ P x q
  pub at_right : {lo mid : ℕ} {x : Live} (y : Live) → Within lo mid x → (q : ℕ) → mid ≤ page_bytes * q → P (x ++ y) q ≡ P y q
  pub in_large : (q₀ n q : ℕ) → q₀ ≤ q → q < q₀ + n → P (pages q₀ n ∷ []) q ≡ false

module _ (P : Live → ℕ → Bool) (local : Local P) (t : Tree → Bool)
    (on_empty : (q : ℕ) → P [] q ≡ t empty)
    (on_cut : (c bits q : ℕ) → c < size_count → 0 < bits → bits < 2 ^ slots c → P (slot_blocks c q 0 (slots c) bits) q ≡ t (cut c bits))
  where
    pub leftmost_page : {h : ℕ} {T : Tree} → WF h T → (q : ℕ) → lowest (P (blocks h q T)) q (2 ^ h) ≡ first_page t h q T
    unfolding blocks first_page
    leftmost_page wf_empty q = unfold lowest in rw (on_empty q) refl
    leftmost_page (wf_cut {c = c} {bits = bits} a p l) q = unfold lowest in rw (on_cut c bits q a p l) refl
    leftmost_page (wf_whole {h = h}) q = lowest_isnt _ q (2 ^ h) (λ j a b. local.in_large q (2 ^ h) j a b)
    leftmost_page (wf_pair {h = h} {l = l} {r = r} u v) q =
        let p : ℕ → Bool = P (blocks h q l ++ blocks h (q + 2 ^ h) r) in
        let two : 2 ^ suc h ≡ 2 ^ h + 2 ^ h = omega (arith, pow-suc 2 h) in
        let left : lowest p q (2 ^ h) ≡ first_page t h q l =
        lowest_cong p (P (blocks h q l)) q (2 ^ h) (λ j a b. local.at_left (blocks h q l) (blocks_within v (q + 2 ^ h)) j (omega arith))
        ∙ leftmost_page u q
        in
        let right : lowest p (q + 2 ^ h) (2 ^ h) ≡ first_page t h (q + 2 ^ h) r =
        lowest_cong p (P (blocks h (q + 2 ^ h) r)) (q + 2 ^ h) (2 ^ h) (λ j a b. local.at_right (blocks h (q + 2 ^ h) r) (blocks_within u q) j (omega arith))
        ∙ leftmost_page v (q + 2 ^ h)
        in
        rw two (lowest_parts p q (2 ^ h) (2 ^ h) ∙ ap₂ or_else left right)

-- ---- free pages

pub free_local : Local free
unfolding free
free_local = record {
  at_left = λ x w q h. clear_left x w (pages q 1) (omega arith);
  at_right = λ y w q h. clear_right y w (pages q 1) (omega arith);
  in_large = λ q₀ n q a b. clear_head (pages q₀ n) (pages q 1) [] (omega arith) (omega arith);
}

-- ---- pages that serve a size and have a slot

pub serves_left : {mid hi : ℕ} (x : Live) {y : Live} → Within mid hi y → (s q : ℕ) → page_bytes * q + page_bytes ≤ mid → serves (x ++ y) s q ≡ serves x s q
unfolding serves
serves_left x {y} w s q h = any_append _ x y ∙ (ap (λ (t : Bool). serves x s q || t) (serves_outside w s q (inr h)) ∙ or_false (serves x s q))

pub serves_right : {lo mid : ℕ} {x : Live} (y : Live) → Within lo mid x → (s q : ℕ) → mid ≤ page_bytes * q → serves (x ++ y) s q ≡ serves y s q
unfolding serves
serves_right {x = x} y w s q h = any_append _ x y ∙ ap (λ (t : Bool). t || serves y s q) (serves_outside w s q (inl h))

pub lowest_slot_cong : (x y : Live) (c q : ℕ) → ((i : ℕ) → i < slots c → clear x (slot c q i) ≡ clear y (slot c q i)) → lowest_slot x c q ≡ lowest_slot y c q
unfolding lowest_slot least
lowest_slot_cong x y c q h = lowest_cong _ _ 0 (slots c) (λ i a b. h i (omega arith))

pub has_slot_local : (c : ℕ) → Local (λ L q. has_slot L c q)
unfolding has_slot
has_slot_local c = record {
  at_left = λ x {y} w q h. ap₂ (λ (s : Bool) (o : Option ℕ). s && has o) (serves_left x w (small c) q h) (lowest_slot_cong (x ++ y) x c q (λ i b. clear_left x w (slot c q i) (omega (arith, slot_in c i b))));
  at_right = λ {x = x} y w q h. ap₂ (λ (s : Bool) (o : Option ℕ). s && has o) (serves_right y w (small c) q h) (lowest_slot_cong (x ++ y) y c q (λ i b. clear_right y w (slot c q i) (omega arith)));
  in_large = λ q₀ n q a b. unfold serves any in rw (ne_eqb (page_bytes * n) (small c) (omega (arith, small_most_lem c))) refl;
}

pub cut_lowest_slot : (c bits q : ℕ) → lowest_slot (slot_blocks c q 0 (slots c) bits) c q ≡ lowest_zero (slots c) bits
unfolding lowest_slot lowest_zero least
cut_lowest_slot c bits q = lowest_cong _ _ 0 (slots c) (λ i a b. rw zero-add at (slots_clear c q (slots c) 0 bits i (omega arith) (omega arith)))

pub cut_has_slot : (c : ℕ) → c < size_count → (d bits q : ℕ) → d < size_count → 0 < bits → bits < 2 ^ slots d → has_slot (slot_blocks d q 0 (slots d) bits) c q ≡ has_room c (cut d bits)
unfolding has_slot has_room
cut_has_slot c c< d bits q a p l = go (split (eqb d c))
  where
    go : (eqb d c ≡ true) ⊎ (eqb d c ≡ false) → serves (slot_blocks d q 0 (slots d) bits) (small c) q && has (lowest_slot (slot_blocks d q 0 (slots d) bits) c q) ≡ eqb d c && has (lowest_zero (slots d) bits)
    go (inl t) =
        let e : d ≡ c = eqb-true d c t in
        rw (t, ← e, slots_serve d q (slots d) 0 bits (omega arith) p l) (ap has (cut_lowest_slot d bits q))
    go (inr t) =
        let n : small d ≢ small c = λ e. eqb-false d c t (small_inj d c a c< e) in
        rw (t, slots_serve_not d q (slots d) 0 bits (small c) (ne_eqb (small d) (small c) n)) refl

-- the lowest page that serves the size and has a slot is the leftmost such page
pub first_with_slot : {h : ℕ} {T : Tree} (c : ℕ) → c < size_count → WF h T → (q : ℕ) → lowest (has_slot (blocks h q T) c) q (2 ^ h) ≡ first_page (has_room c) h q T
first_with_slot c c< = leftmost_page (λ L q. has_slot L c q) (has_slot_local c) (has_room c) (λ q. unfold has_slot has_room serves any in refl) (cut_has_slot c c<)

pub first_free : {h : ℕ} {T : Tree} → WF h T → (q : ℕ) → lowest (free (blocks h q T)) q (2 ^ h) ≡ first_page is_empty h q T
first_free = leftmost_page free free_local is_empty (λ q. unfold free clear every is_empty in refl)
    (λ c bits q a p l. unfold free blocks in clear_all (wf_cut a p l) q (pages q 1) (omega arith) (omega arith))
