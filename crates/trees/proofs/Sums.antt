-- The figures of a tree are those of its blocks. Assumes nothing.
use Rattle.std.proofs.Common.{Bool, [], ◌&&◌, ◌*◌, ◌++◌, ◌+◌, ◌-◌, ◌<◌, ◌^◌, ◌||◌, ◌∙◌, ◌∷◌, ◌≡◌, ◌≤◌, ◌⊎◌, add_assoc, ap, ap₂, arith, cond, false, inl, inr, le-ltb, lt-ltb, ltb, max, not, pow-suc, refl, suc, sym, true, zero, zero-add, ℕ, ⊎_elim}
use Rattle.std.proofs.Math.Option.{none, some}
use Rattle.laws.proofs.Counting.{count_all, count_cong, count_parts}
use Rattle.laws.proofs.Logic.{and_left, contra, has_bind, has_or, split}
use Rattle.meaning.specs.Answers.{clear, free, held_bytes, large_place, live_bytes, room_up_to}
use Rattle.meaning.specs.Blocks.{Live, large, page_bytes, pages, size_count, slots}
use Rattle.meaning.specs.Search.{count, every, has, least}
use Rattle.trees.proofs.Pages.{free_local}
use Rattle.trees.proofs.Runs.{largest_first}
use Rattle.trees.proofs.Within.{blocks_within, clear_all}
use Rattle.trees.specs.Leftmost.{first_run}
use Rattle.trees.specs.Sums.{best, room_bytes, used}
use Rattle.trees.specs.Tree.{Tree, WF, blocks, is_empty, slot_blocks, wf_cut, wf_empty, wf_pair, wf_whole}

-- ---- live

pub live_append : (x y : Live) → live_bytes (x ++ y) ≡ live_bytes x + live_bytes y
unfolding live_bytes
live_append [] y = sym (zero-add (live_bytes y))
live_append (b ∷ x) y = rw (live_append x y) (sym (add_assoc b.size (live_bytes x) (live_bytes y)))

-- ---- held

empty_used : (q : ℕ) → count (λ j. not (free [] j)) q 1 ≡ 0
unfolding count free clear every
empty_used q = refl

cut_used : (c bits : ℕ) → c < size_count → 0 < bits → bits < 2 ^ slots c → (q : ℕ) → count (λ j. not (free (slot_blocks c q 0 (slots c) bits) j)) q 1 ≡ 1
unfolding count free blocks is_empty
cut_used c bits a p l q = rw (clear_all (wf_cut a p l) q (pages q 1) (omega arith) (omega arith)) refl

pub used_pages : {h : ℕ} {T : Tree} → WF h T → (q : ℕ) → count (λ j. not (free (blocks h q T) j)) q (2 ^ h) ≡ used h T
unfolding blocks used
used_pages wf_empty q = empty_used q
used_pages (wf_cut {c = c} {bits = bits} a p l) q = cut_used c bits a p l q
used_pages (wf_whole {h = h}) q = count_all _ q (2 ^ h) (λ j a b. ap not (free_local.in_large q (2 ^ h) j a b))
used_pages (wf_pair {h = h} {l = l} {r = r} u v) q =
    let p : ℕ → Bool = λ j. not (free (blocks h q l ++ blocks h (q + 2 ^ h) r) j) in
    let two : 2 ^ suc h ≡ 2 ^ h + 2 ^ h = omega (arith, pow-suc 2 h) in
    let left : count p q (2 ^ h) ≡ used h l =
    count_cong p (λ j. not (free (blocks h q l) j)) q (2 ^ h) (λ j a b. ap not (free_local.at_left (blocks h q l) (blocks_within v (q + 2 ^ h)) j (omega arith)))
    ∙ used_pages u q
    in
    let right : count p (q + 2 ^ h) (2 ^ h) ≡ used h r =
    count_cong p (λ j. not (free (blocks h (q + 2 ^ h) r) j)) (q + 2 ^ h) (2 ^ h) (λ j a b. ap not (free_local.at_right (blocks h (q + 2 ^ h) r) (blocks_within u q) j (omega arith)))
    ∙ used_pages v (q + 2 ^ h)
    in
    rw two (count_parts p q (2 ^ h) (2 ^ h) ∙ ap₂ ◌+◌ left right)

pub tree_held : {m : ℕ} {T : Tree} → WF m T → held_bytes m (blocks m 0 T) ≡ page_bytes * used m T
unfolding held_bytes
tree_held w = ap (λ x. page_bytes * x) (used_pages w 0)

-- ---- room

pub best_empty : {h : ℕ} {T : Tree} → WF h T → is_empty T ≡ true → best h T ≡ suc h
unfolding best is_empty
best_empty w e = grind arith

pub best_full : {h : ℕ} {T : Tree} → WF h T → is_empty T ≡ false → best h T ≤ h
unfolding best is_empty
best_full wf_empty e = contra refl e
best_full (wf_cut a b c) e = omega arith
best_full wf_whole e = omega arith
best_full (wf_pair {h = h} {l = l} {r = r} u v) e = rw e (omega (arith, top u (split (is_empty l)) (best_full u), top v (split (is_empty r)) (best_full v)))
  where
    top : {T : Tree} → WF h T → (is_empty T ≡ true) ⊎ (is_empty T ≡ false) → (is_empty T ≡ false → best h T ≤ h) → best h T ≤ suc h
    top w (inl t) f = omega (arith, best_empty w t)
    top w (inr t) f = omega (arith, f t)

or_ltb : (k a b : ℕ) → ltb k a || ltb k b ≡ ltb k (max a b)
or_ltb k a b = grind arith

pub best_run : {h : ℕ} {T : Tree} → WF h T → (k d i : ℕ) → h ≡ k + d → has (first_run d i T) ≡ ltb k (best h T)
unfolding first_run best
best_run {h} {T} w k zero i e = go (split (is_empty T))
  where
    go : (is_empty T ≡ true) ⊎ (is_empty T ≡ false) → has (cond (is_empty T) (some i) none) ≡ ltb k (best h T)
    go (inl t) = unfold has in rw (t, best_empty w t) (sym (lt-ltb k (suc h) (omega arith)))
    go (inr t) = unfold has in rw t (sym (le-ltb k (best h T) (omega (arith, best_full w t))))
best_run wf_empty k (suc d) i e = absurd (omega arith)
best_run (wf_cut a b c) k (suc d) i e = absurd (omega arith)
best_run wf_whole k (suc d) i e = unfold has in sym (le-ltb k 0 (omega arith))
best_run (wf_pair {h = h} {l = l} {r = r} u v) k (suc d) i e =
    has_or (first_run d i l) (first_run d (i + 2 ^ d) r)
    ∙ (ap₂ ◌||◌ (best_run u k d i (omega arith)) (best_run v k d (i + 2 ^ d) (omega arith)) ∙ go (split (is_empty l && is_empty r)))
  where
    go : (is_empty l && is_empty r ≡ true) ⊎ (is_empty l && is_empty r ≡ false) → ltb k (best h l) || ltb k (best h r) ≡ ltb k (cond (is_empty l && is_empty r) (suc (suc h)) (max (best h l) (best h r)))
    go (inl t) = rw (t, best_empty u (and_left (is_empty l) (is_empty r) t), lt-ltb k (suc h) (omega arith)) (sym (lt-ltb k (suc (suc h)) (omega arith)))
    go (inr t) = rw t (or_ltb k (best h l) (best h r))

room_zero : (b : ℕ) → b ≤ 1 → cond (ltb 0 b) page_bytes 0 ≡ room_bytes b
unfolding room_bytes
room_zero b l = grind arith

room_suc : (b k less : ℕ) → b ≤ suc (suc k) → (b ≤ suc k → less ≡ room_bytes b) → cond (ltb (suc k) b) (page_bytes * 2 ^ suc k) less ≡ room_bytes b
unfolding room_bytes
room_suc b k less h f = grind arith

has_place : {m : ℕ} {T : Tree} → WF m T → (k : ℕ) → k ≤ m → has (large_place m (blocks m 0 T) k) ≡ ltb k (best m T)
unfolding large_place
has_place {m} {T} w k l = has_bind (least (λ j. clear (blocks m 0 T) (large k j)) (2 ^ (m - k))) _ ∙ (ap has (largest_first w k (m - k) (omega arith)) ∙ best_run w k (m - k) 0 (omega arith))

tree_room_up_to : {m : ℕ} {T : Tree} → WF m T → (k : ℕ) → k ≤ m → best m T ≤ suc k → room_up_to m (blocks m 0 T) k ≡ room_bytes (best m T)
unfolding room_up_to
tree_room_up_to {m} {T} w zero l b = rw (has_place w 0 l) (room_zero (best m T) b)
tree_room_up_to {m} {T} w (suc k) l b = rw (has_place w (suc k) l) (room_suc (best m T) k _ b (tree_room_up_to w k (omega arith)))

pub tree_room : {m : ℕ} {T : Tree} → WF m T → room_up_to m (blocks m 0 T) m ≡ room_bytes (best m T)
tree_room {m} {T} w = tree_room_up_to w m (omega arith) (⊎_elim (λ (t : is_empty T ≡ true). omega (arith, best_empty w t)) (λ (t : is_empty T ≡ false). omega (arith, best_full w t)) (split (is_empty T)))
