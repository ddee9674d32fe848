-- Refusal 3 comes exactly when there is no candidate, and a take is given the candidate with the lowest offset. Assumes nothing.
use Rattle.std.proofs.Common.{Bool, ◌-◌, ◌<◌, ◌^◌, ◌∙◌, ◌≡◌, ◌≤◌, ◌⊎◌, ap, arith, cond, eq-or-lt_of_le, eqb, false, inl, inr, le-leb, le-ltb, leb, leb-false, leb-true, ltb, mul-le-mul_right, ne_eqb, refl, subst, sym, true, ℕ, ⊎_elim}
use Rattle.std.proofs.Math.Option.{Option, none, some}
use Rattle.std.proofs.lemmas.Bool.{lt-leb}
use Rattle.meaning.specs.Answers.{Answer, answer, clear, free, fresh_place, has_slot, k_for, large_place, lowest_slot, offset, or_refuse, place, refused, served_place, serves, size_for, small_place, take}
use Rattle.meaning.specs.Blocks.{Block, Live, arena, large, slot, slots, small, small_most}
use Rattle.meaning.specs.Candidates.{Candidate, Served, in_free_page, in_run, in_served}
use Rattle.meaning.specs.Search.{bind, has, least, or_else}
use Rattle.laws.proofs.Logic.{and_left, and_right, bind_none, bind_some, contra, le_or_lt, or_else_left, or_else_right, split}
use Rattle.laws.proofs.Searches.{lowest_found, lowest_none}
use Rattle.laws.proofs.Sizes.{slot_in}

-- ---- where nothing is found there is no candidate

no_run : (m : ℕ) (L : Live) (k : ℕ) → large_place m L k ≡ none → (j : ℕ) → j < 2 ^ (m - k) → clear L (large k j) ≡ false
unfolding large_place least
no_run m L k e j h = lowest_none (λ j. clear L (large k j)) 0 (2 ^ (m - k)) (bind_none _ _ e) j (omega arith) (omega arith)

no_free : (m : ℕ) (L : Live) (c : ℕ) → fresh_place m L c ≡ none → (q : ℕ) → q < 2 ^ m → free L q ≡ false
unfolding fresh_place least
no_free m L c e q h = lowest_none (free L) 0 (2 ^ m) (bind_none _ _ e) q (omega arith) (omega arith)

-- a page that passes has a slot, so the search finds none only if no page passes
served_none : (m : ℕ) (L : Live) (c : ℕ) → served_place m L c ≡ none → least (has_slot L c) (2 ^ m) ≡ none
unfolding served_place
served_none m L c e = go (least (has_slot L c) (2 ^ m)) refl
  where
    go : (o : Option ℕ) → least (has_slot L c) (2 ^ m) ≡ o → least (has_slot L c) (2 ^ m) ≡ none
    go none f = f
    go (some q) f =
        let g = lowest_found (has_slot L c) 0 (2 ^ m) q (unfold least in f) in
        let h = and_right (serves L (small c) q) (has (lowest_slot L c q)) (unfold has_slot in g.passes) in
        let x : bind (lowest_slot L c q) (λ i. some (slot c q i)) ≡ none = unfold bind in rw f at e in
        contra h (ap has (bind_none (lowest_slot L c q) _ x) ∙ unfold has in refl)

-- a page that serves the size and has a slot passes the search's test
served_passes : {m : ℕ} {L : Live} {c q i : ℕ} → Served m L c q i → has_slot L c q ≡ true
unfolding has_slot
served_passes {L = L} {c = c} {q = q} {i = i} s = rw s.serving (go (lowest_slot L c q) refl)
  where
    go : (o : Option ℕ) → lowest_slot L c q ≡ o → has o ≡ true
    go none f = contra s.not_live (lowest_none (λ i. clear L (slot c q i)) 0 (slots c) (unfold lowest_slot least in f) i (omega arith) (omega (arith, s.slot_of_page)))
    go (some j) f = unfold has in refl

no_served : (m : ℕ) (L : Live) (c : ℕ) → served_place m L c ≡ none → (q i : ℕ) → Served m L c q i → ⊥
unfolding least
no_served m L c e q i s = contra (served_passes s) (lowest_none (has_slot L c) 0 (2 ^ m) (served_none m L c e) q (omega arith) (omega (arith, s.page)))

pub none_left : (m : ℕ) (L : Live) (n : ℕ) {b : Block} → place m L n ≡ none → Candidate m L n b → ⊥
unfolding place bind small_place
none_left m L n e (in_served c q i s f h) = no_served m L c (or_else_left (served_place m L c) (fresh_place m L c) (rw (le-leb n small_most s, f) at e)) q i h
none_left m L n e (in_free_page c q s f x h fr) = contra fr (no_free m L c (or_else_right (served_place m L c) (fresh_place m L c) (rw (le-leb n small_most s, f) at e)) q h)
none_left m L n e (in_run k j s f h cl) = contra cl (no_run m L k (rw (lt-leb n small_most s, f) at e) j h)

-- ---- what is found is the candidate with the lowest offset

-- b is a candidate, and none starts lower
pub record Lowest (m : ℕ) (L : Live) (n : ℕ) (b : Block) : Type 0 where
  pub is_candidate : Candidate m L n b
  pub nothing_lower : (x : Block) → Candidate m L n x → b.start ≤ x.start

same_some : {a b : ℕ} {o : Option ℕ} → o ≡ some a → o ≡ some b → a ≡ b
same_some p q = cc

-- a slot of a lower page starts lower, and so does a lower slot of the same page
slot_order : (c q i p j : ℕ) → i < slots c → (q ≡ p → i ≤ j) → q ≤ p → (slot c q i).start ≤ (slot c p j).start
slot_order c q i p j h l g =
    ⊎_elim
    (λ (e : q ≡ p). omega (arith, mul-le-mul_right (small c) (l e)))
    (λ (e : q < p). omega (arith, slot_in c i h))
    (eq-or-lt_of_le g)

served_lowest : (m : ℕ) (L : Live) (n c : ℕ) {b : Block} → n ≤ small_most → size_for n ≡ some c → served_place m L c ≡ some b → Lowest m L n b
unfolding served_place
served_lowest m L n c {b} s f₀ f =
    let (q, f₁, f₂) = bind_some (least (has_slot L c) (2 ^ m)) _ f in
    let (i, f₃, f₄) = bind_some (lowest_slot L c q) _ f₂ in
    let g = lowest_found (has_slot L c) 0 (2 ^ m) q (unfold least in f₁) in
    let k = lowest_found (λ i. clear L (slot c q i)) 0 (slots c) i (unfold lowest_slot least in f₃) in
    let y : slot c q i ≡ b = cc in
    let here : Served m L c q i = record { page = omega arith; slot_of_page = omega arith; serving = and_left (serves L (small c) q) (has (lowest_slot L c q)) (unfold has_slot in g.passes); not_live = k.passes } in
    let first : (p j : ℕ) → Served m L c p j → (slot c q i).start ≤ (slot c p j).start =
    λ p j z. slot_order c q i p j (omega arith)
    (λ e. ⊎_elim (λ (l : i ≤ j). l) (λ (l : j < i). contra (rw e z.not_live) (k.first j (omega arith) l)) (le_or_lt i j))
    (⊎_elim (λ (l : q ≤ p). l) (λ (l : p < q). contra (served_passes z) (g.first p (omega arith) l)) (le_or_lt q p)) in
    let all : (x : Block) → Candidate m L n x → (slot c q i).start ≤ x.start = λ x z. below q i here first z in
    subst (λ x. Lowest m L n x) y (record { is_candidate = in_served c q i s f₀ here; nothing_lower = all })
  where
    below : (q i : ℕ) → Served m L c q i → ((p j : ℕ) → Served m L c p j → (slot c q i).start ≤ (slot c p j).start) → {x : Block} → Candidate m L n x → (slot c q i).start ≤ x.start
    below q i here first (in_served d p j s' f' z) =
        let e : d ≡ c = same_some f' f₀ in
        subst (λ (y : ℕ). Served m L y p j → (slot c q i).start ≤ (slot y p j).start) (sym e) (first p j) z
    below q i here first (in_free_page d p s' f' no_one h fr) =
        let e : c ≡ d = same_some f₀ f' in
        absurd (no_one q i (subst (λ (y : ℕ). Served m L y q i) e here))
    below q i here first (in_run k j s' f' h cl) = absurd (omega arith)

fresh_lowest : (m : ℕ) (L : Live) (n c : ℕ) {b : Block} → n ≤ small_most → size_for n ≡ some c → served_place m L c ≡ none → fresh_place m L c ≡ some b → Lowest m L n b
unfolding fresh_place
fresh_lowest m L n c {b} s f₀ no_one f =
    let (q, f₁, f₂) = bind_some (least (free L) (2 ^ m)) _ f in
    let g = lowest_found (free L) 0 (2 ^ m) q (unfold least in f₁) in
    let y : slot c q 0 ≡ b = cc in
    subst (λ x. Lowest m L n x) y
    (record { is_candidate = in_free_page c q s f₀ (no_served m L c no_one) (omega arith) g.passes; nothing_lower = λ x z. below q (λ p fr. ⊎_elim (λ (l : q ≤ p). l) (λ (l : p < q). contra fr (g.first p (omega arith) l)) (le_or_lt q p)) z })
  where
    below : (q : ℕ) → ((p : ℕ) → free L p ≡ true → q ≤ p) → {x : Block} → Candidate m L n x → (slot c q 0).start ≤ x.start
    below q first (in_served d p j s' f' z) = absurd (no_served m L c no_one p j (subst (λ (y : ℕ). Served m L y p j) (same_some f' f₀) z))
    below q first (in_free_page d p s' f' n' h fr) = omega (arith, first p fr)
    below q first (in_run k j s' f' h cl) = absurd (omega arith)

run_lowest : (m : ℕ) (L : Live) (n k : ℕ) {b : Block} → small_most < n → k_for m n ≡ some k → large_place m L k ≡ some b → Lowest m L n b
unfolding large_place
run_lowest m L n k {b} s f₀ f =
    let (j, f₁, f₂) = bind_some (least (λ j. clear L (large k j)) (2 ^ (m - k))) (λ j. some (large k j)) {a = b} f in
    let g = lowest_found (λ j. clear L (large k j)) 0 (2 ^ (m - k)) j (unfold least in f₁) in
    let y : large k j ≡ b = cc in
    subst (λ x. Lowest m L n x) y
    (record { is_candidate = in_run k j s f₀ (omega arith) g.passes; nothing_lower = λ x z. below j (λ i cl. ⊎_elim (λ (l : j ≤ i). l) (λ (l : i < j). contra cl (g.first i (omega arith) l)) (le_or_lt j i)) z })
  where
    below : (j : ℕ) → ((i : ℕ) → clear L (large k i) ≡ true → j ≤ i) → {x : Block} → Candidate m L n x → (large k j).start ≤ x.start
    below j first (in_served d p i s' f' z) = absurd (omega arith)
    below j first (in_free_page d p s' f' n' h fr) = absurd (omega arith)
    below j first (in_run k' i s' f' h cl) =
        let e : k' ≡ k = same_some f' f₀ in
        subst (λ (y : ℕ). clear L (large y i) ≡ true → (large k j).start ≤ (large y i).start) (sym e) (λ cl'. omega (arith, mul-le-mul_right (2 ^ k) (first i cl'))) cl

pub place_lowest : (m : ℕ) (L : Live) (n : ℕ) {b : Block} → place m L n ≡ some b → Lowest m L n b
unfolding place small_place or_else
place_lowest m L n {b} e = go (split (leb n small_most))
  where
    in_small : (c : ℕ) → n ≤ small_most → size_for n ≡ some c → (o : Option Block) → served_place m L c ≡ o → or_else o (fresh_place m L c) ≡ some b → Lowest m L n b
    in_small c s f none g h = fresh_lowest m L n c s f g h
    in_small c s f (some x) g h = served_lowest m L n c s f (g ∙ h)

    go : (leb n small_most ≡ true) ⊎ (leb n small_most ≡ false) → Lowest m L n b
    go (inl t) =
        let (c, f₁, f₂) = bind_some (size_for n) (small_place m L) (rw t at e) in
        in_small c (leb-true n small_most t) f₁ (served_place m L c) refl f₂
    go (inr t) =
        let (k, f₁, f₂) = bind_some (k_for m n) (large_place m L) (rw t at e) in
        run_lowest m L n k (leb-false n small_most t) f₁ f₂

-- ---- for the reader

-- a take that is not refused with 1 or 2 is refused with 3 if there is no candidate
pub refused_if_none : (m : ℕ) (L : Live) (n : ℕ) → 0 < n → n ≤ arena m → ((b : Block) → Candidate m L n b → ⊥) → answer m L (take n) ≡ refused 3
unfolding answer or_refuse
refused_if_none m L n p a h = rw (ne_eqb n 0 (omega arith), le-ltb (arena m) n a) (go (place m L n) refl)
  where
    go : (o : Option Block) → place m L n ≡ o → or_refuse 3 (λ b. offset b.start) o ≡ refused 3
    go none e = refl
    go (some b) e = absurd (h b (place_lowest m L n e).is_candidate)

-- and only if there is none
pub refused_only_if_none : (m : ℕ) (L : Live) (n : ℕ) → answer m L (take n) ≡ refused 3 → (b : Block) → Candidate m L n b → ⊥
unfolding answer or_refuse
refused_only_if_none m L n e b c = go (eqb n 0) (ltb (arena m) n) (place m L n) refl (ap (λ (a : Answer). a.refusal) e)
  where
    go : (s t : Bool) (o : Option Block) → place m L n ≡ o → (cond s (refused 1) (cond t (refused 2) (or_refuse 3 (λ b. offset b.start) o))).refusal ≡ 3 → ⊥
    go true t o f g = omega arith
    go false true o f g = omega arith
    go false false none f g = none_left m L n f c
    go false false (some b') f g = omega arith
