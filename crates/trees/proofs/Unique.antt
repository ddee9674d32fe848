-- A set of live blocks is that of one tree only. Assumes nothing.
use Rattle.std.proofs.Common.{[], ◌++◌, ◌+◌, ◌<◌, ◌^◌, ◌∙◌, ◌∷◌, ◌≡◌, ap, ap₂, arith, eqb, eqb-true, false, ne_eqb, pow_pos, pow-suc, refl, suc, sym, true, ℕ, ⊎_elim}
use Rattle.digits.proofs.Digits.{bits_ext}
use Rattle.digits.specs.Digits.{bit_at}
use Rattle.laws.proofs.Logic.{contra, not_inj, split}
use Rattle.laws.proofs.Sizes.{small_inj, small_most_lem}
use Rattle.meaning.specs.Answers.{clear, serves}
use Rattle.meaning.specs.Blocks.{Block, Live, ends, page_bytes, pages, size_count, slot, slots, small}
use Rattle.meaning.specs.Search.{any}
use Rattle.trees.proofs.Exists.{TreeOf}
use Rattle.trees.proofs.Slots.{slots_clear, slots_serve, slots_serve_not}
use Rattle.trees.proofs.Within.{Within, blocks_within, clear_all, within_none, within_some}
use Rattle.trees.specs.Tree.{Tree, WF, blocks, cut, is_empty, pair, slot_blocks, wf_cut, wf_empty, wf_pair, wf_whole}

parts : {lo mid hi : ℕ} {x x' y y' : Live} → Within lo mid x → Within lo mid x' → Within mid hi y → Within mid hi y' → x ++ y ≡ x' ++ y' → (x ≡ x') × (y ≡ y')
parts within_none within_none v v' e = (refl, e)
parts within_none (within_some s n f w) within_none v' e = grind arith
parts within_none (within_some s n f w) (within_some s' n' f' v) v' e = grind arith
parts (within_some s n f w) within_none v within_none e = grind arith
parts (within_some s n f w) within_none v (within_some s' n' f' v') e = grind arith
parts (within_some s n f w) (within_some s' n' f' w') v v' e = grind (arith, parts w w' v v')

straddles : {lo mid hi : ℕ} {x y : Live} (b : Block) → Within lo mid x → Within mid hi y → b.start < mid → mid < ends b → b ∷ [] ≡ x ++ y → ⊥
straddles b w v s f e = grind arith

cut_unique : (c d a b q : ℕ) → c < size_count → d < size_count → 0 < a → a < 2 ^ slots c → 0 < b → b < 2 ^ slots d
    → slot_blocks c q 0 (slots c) a ≡ slot_blocks d q 0 (slots d) b → cut c a ≡ cut d b
cut_unique c d a b q c< d< a> a< b> b< e = ap₂ cut same bits
  where
    same_size : small d ≡ small c
    same_size = ⊎_elim (λ (t : eqb (small d) (small c) ≡ true). eqb-true (small d) (small c) t)
        (λ (t : eqb (small d) (small c) ≡ false). contra (ap (λ (L : Live). serves L (small c) q) (sym e) ∙ slots_serve c q (slots c) 0 a (omega arith) a> a<) (slots_serve_not d q (slots d) 0 b (small c) t))
        (split (eqb (small d) (small c)))

    same : c ≡ d
    same = small_inj c d c< d< (sym same_size)

    e' : slot_blocks c q 0 (slots c) a ≡ slot_blocks c q 0 (slots c) b
    e' = e ∙ ap (λ x. slot_blocks x q 0 (slots x) b) (sym same)

    bits : a ≡ b
    bits = bits_ext (slots c) a b a< (rw same b<) (λ t l. not_inj (bit_at t a) (bit_at t b)
        (sym (slots_clear c q (slots c) 0 a t (omega arith) l) ∙ (ap (λ (L : Live). clear L (slot c q (0 + t))) e' ∙ slots_clear c q (slots c) 0 b t (omega arith) l)))

cut_whole : (c a q : ℕ) → 0 < a → a < 2 ^ slots c → slot_blocks c q 0 (slots c) a ≡ pages q 1 ∷ [] → ⊥
unfolding serves any
cut_whole c a q a> a< e = contra (ap (λ (L : Live). serves L (small c) q) (sym e) ∙ slots_serve c q (slots c) 0 a (omega arith) a> a<) (rw (ne_eqb page_bytes (small c) (omega (arith, small_most_lem c))) refl)

same_empty : {h : ℕ} {T T' : Tree} → WF h T → WF h T' → (q : ℕ) → blocks h q T ≡ blocks h q T' → is_empty T ≡ is_empty T'
same_empty {h} w w' q e = sym (clear_all w q (pages q (2 ^ h)) (omega arith) (omega arith)) ∙ (ap (λ (L : Live). clear L (pages q (2 ^ h))) e ∙ clear_all w' q (pages q (2 ^ h)) (omega arith) (omega arith))

pub tree_unique : {h : ℕ} {T T' : Tree} → WF h T → WF h T' → (q : ℕ) → blocks h q T ≡ blocks h q T' → T ≡ T'
unfolding blocks is_empty
tree_unique wf_empty wf_empty q e = refl
tree_unique wf_empty (wf_cut a b c) q e = contra (same_empty (wf_cut a b c) wf_empty q (sym e)) refl
tree_unique wf_empty wf_whole q e = grind arith
tree_unique (wf_cut a b c) wf_empty q e = contra (same_empty (wf_cut a b c) wf_empty q e) refl
tree_unique (wf_cut {c = c} {bits = x} a b l) (wf_cut {c = d} {bits = y} a' b' l') q e = cut_unique c d x y q a a' b l b' l' e
tree_unique (wf_cut {c = c} {bits = x} a b l) wf_whole q e = absurd (cut_whole c x q b l e)
tree_unique wf_whole wf_empty q e = grind arith
tree_unique wf_whole (wf_cut {c = c} {bits = x} a b l) q e = absurd (cut_whole c x q b l (sym e))
tree_unique wf_whole wf_whole q e = refl
tree_unique wf_whole (wf_pair {h = h} u v) q e = absurd (straddles (pages q (2 ^ suc h)) (blocks_within u q) (blocks_within v (q + 2 ^ h)) (omega (arith, pow_pos h)) (omega (arith, pow_pos h, pow-suc 2 h)) e)
tree_unique (wf_pair {h = h} u v) wf_whole q e = absurd (straddles (pages q (2 ^ suc h)) (blocks_within u q) (blocks_within v (q + 2 ^ h)) (omega (arith, pow_pos h)) (omega (arith, pow_pos h, pow-suc 2 h)) (sym e))
tree_unique (wf_pair {h = h} u v) (wf_pair u' v') q e =
    let r = parts (blocks_within u q) (blocks_within u' q) (blocks_within v (q + 2 ^ h)) (blocks_within v' (q + 2 ^ h)) e in
    ap₂ pair (tree_unique u u' q r.0) (tree_unique v v' (q + 2 ^ h) r.1)

pub one_tree : {m : ℕ} {L : Live} (s t : TreeOf m L) → s.tree ≡ t.tree
one_tree s t = tree_unique s.wf t.wf 0 (s.same ∙ sym t.same)
