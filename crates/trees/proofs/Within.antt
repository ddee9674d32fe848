-- Where the blocks of a tree lie, and when the run of a tree is clear. Assumes nothing.
use Rattle.std.proofs.Common.{Bool, [], ◌%◌, ◌&&◌, ◌*◌, ◌++◌, ◌+◌, ◌/◌, ◌<◌, ◌^◌, ◌||◌, ◌∙◌, ◌∷◌, ◌≡◌, ◌≢◌, ◌≤◌, ◌⊎◌, ap₂, arith, cond, eqb, false, inl, inr, le-leb, leb, pow_pos, pow-suc, refl, suc, true, zero, ℕ}
use Rattle.std.proofs.lemmas.Bool.{eqb-false, lt-leb}
use Rattle.laws.proofs.Lists.{clear_append}
use Rattle.laws.proofs.Logic.{split}
use Rattle.laws.proofs.Sizes.{slot_in, small_pos}
use Rattle.meaning.specs.Answers.{clear}
use Rattle.meaning.specs.Blocks.{Block, Live, ends, page_bytes, pages, slot, slots}
use Rattle.meaning.specs.Search.{every}
use Rattle.trees.specs.Tree.{Tree, WF, blocks, is_empty, slot_blocks, wf_cut, wf_empty, wf_pair, wf_whole}

-- ---- where the blocks of a tree lie

pub data Within (lo hi : ℕ) : Live → Type 0 where
  within_none : Within lo hi []
  within_some : {b : Block} {L : Live} → lo ≤ b.start → b.start < ends b → ends b ≤ hi → Within lo hi L → Within lo hi (b ∷ L)

pub within_append : {lo hi : ℕ} {x y : Live} → Within lo hi x → Within lo hi y → Within lo hi (x ++ y)
within_append within_none w = w
within_append (within_some a b c v) w = within_some a b c (within_append v w)

pub within_widen : {lo hi lo' hi' : ℕ} {x : Live} → lo' ≤ lo → hi ≤ hi' → Within lo hi x → Within lo' hi' x
within_widen p q within_none = within_none
within_widen p q (within_some {b = b} s n e v) = within_some {b = b} (omega arith) n (omega arith) (within_widen p q v)

pub slots_within : (c q i n bits : ℕ) → i + n ≤ slots c → Within (page_bytes * q) (page_bytes * q + page_bytes) (slot_blocks c q i n bits)
unfolding slot_blocks
slots_within c q i zero bits h = within_none
slots_within c q i (suc n) bits h = go (eqb (bits % 2) 1) (slots_within c q (suc i) n (bits / 2) (omega arith))
  where
    go : (t : Bool) {L : Live} → Within (page_bytes * q) (page_bytes * q + page_bytes) L → Within (page_bytes * q) (page_bytes * q + page_bytes) (cond t (slot c q i ∷ L) L)
    go true w = within_some {b = slot c q i} (omega arith) (omega (arith, small_pos c)) (omega (arith, slot_in c i (omega arith))) w
    go false w = w

pub blocks_within : {h : ℕ} {T : Tree} → WF h T → (q : ℕ) → Within (page_bytes * q) (page_bytes * (q + 2 ^ h)) (blocks h q T)
unfolding blocks
blocks_within wf_empty q = within_none
blocks_within (wf_cut {c = c} {bits = bits} a b d) q = within_widen (omega arith) (omega arith) (slots_within c q 0 (slots c) bits (omega arith))
blocks_within (wf_whole {h = h}) q = within_some {b = pages q (2 ^ h)} (omega arith) (omega (arith, pow_pos h)) (omega arith) within_none
blocks_within (wf_pair {h = h} u v) q =
    within_append (within_widen (omega arith) (omega (arith, pow-suc 2 h)) (blocks_within u q)) (within_widen (omega arith) (omega (arith, pow-suc 2 h)) (blocks_within v (q + 2 ^ h)))

-- ---- a run is free when the tree that stands there is empty

pub clear_outside : {lo hi : ℕ} {L : Live} → Within lo hi L → (b : Block) → (hi ≤ b.start) ⊎ (ends b ≤ lo) → clear L b ≡ true
unfolding clear every
clear_outside within_none b o = refl
clear_outside (within_some {b = x} s n e w) b (inl o) = rw (le-leb (ends x) b.start (omega arith)) (clear_outside w b (inl o))
clear_outside (within_some {b = x} s n e w) b (inr o) =
    rw (le-leb (ends b) x.start (omega arith)) (go (leb (ends x) b.start) (clear_outside w b (inr o)))
  where
    go : (t : Bool) {u : Bool} → u ≡ true → (t || true) && u ≡ true
    go true e = e
    go false e = e

pub clear_head : (x b : Block) (L : Live) → b.start < ends x → x.start < ends b → clear (x ∷ L) b ≡ false
unfolding clear every
clear_head x b L s e = rw (lt-leb (ends x) b.start s, lt-leb (ends b) x.start e) refl

slots_cover : (c q n i bits : ℕ) (b : Block) → i + n ≤ slots c → 0 < bits → bits < 2 ^ n → b.start ≤ page_bytes * q → page_bytes * q + page_bytes ≤ ends b → clear (slot_blocks c q i n bits) b ≡ false
unfolding slot_blocks
slots_cover c q zero i bits b f p l s e = absurd (omega arith)
slots_cover c q (suc n) i bits b f p l s e = go (split (eqb (bits % 2) 1)) (slots_cover c q n (suc i) (bits / 2) b (omega arith))
  where
    go : (eqb (bits % 2) 1 ≡ true) ⊎ (eqb (bits % 2) 1 ≡ false)
        → (0 < bits / 2 → bits / 2 < 2 ^ n → b.start ≤ page_bytes * q → page_bytes * q + page_bytes ≤ ends b → clear (slot_blocks c q (suc i) n (bits / 2)) b ≡ false)
        → clear (cond (eqb (bits % 2) 1) (slot c q i ∷ slot_blocks c q (suc i) n (bits / 2)) (slot_blocks c q (suc i) n (bits / 2))) b ≡ false
    go (inl t) ih = rw t (clear_head (slot c q i) b _ (omega (arith, small_pos c)) (omega (arith, small_pos c, slot_in c i (omega arith))))
    go (inr t) ih =
        let z : bits % 2 ≢ 1 = eqb-false (bits % 2) 1 t in
        rw t (ih (omega arith) (omega (arith, pow-suc 2 n)) s e)

pub clear_all : {h : ℕ} {T : Tree} → WF h T → (q : ℕ) (b : Block) → b.start ≤ page_bytes * q → page_bytes * (q + 2 ^ h) ≤ ends b → clear (blocks h q T) b ≡ is_empty T
unfolding blocks is_empty
clear_all wf_empty q b s e = unfold clear every in refl
clear_all (wf_cut {c = c} {bits = bits} a p d) q b s e = slots_cover c q (slots c) 0 bits b (omega arith) p d s (omega arith)
clear_all (wf_whole {h = h}) q b s e = clear_head (pages q (2 ^ h)) b [] (omega (arith, pow_pos h)) (omega (arith, pow_pos h))
clear_all (wf_pair {h = h} {l = l} {r = r} u v) q b s e =
    clear_append (blocks h q l) (blocks h (q + 2 ^ h) r) b
    ∙ ap₂ ◌&&◌ (clear_all u q b s (omega (arith, pow-suc 2 h))) (clear_all v (q + 2 ^ h) b (omega arith) (omega (arith, pow-suc 2 h)))
