-- What a table that stands for a set of live blocks holds at its root. Assumes nothing.
use Rattle.std.proofs.Common.{List, ◌+◌, ◌<◌, ◌^◌, ◌≡◌, arith, subst, ℕ}
use Rattle.meaning.specs.Blocks.{Allowed, Live}
use Rattle.trees.proofs.Exists.{tree_allowed}
use Rattle.trees.specs.Tree.{WF}
use Rattle.table.proofs.Cells.{enc_wf}
use Rattle.table.proofs.Nodes.{over_add}
use Rattle.table.specs.Table.{Encodes, Stands}
use Rattle.table.specs.Walks.{over}

module _ {m : ℕ} {L : Live} {t : List ℕ} (s : Stands m L t) where
  -- a tree of the arena's height
  pub stands_wf : WF m s.tree
  stands_wf = enc_wf t (2 ^ m) 1 m s.tree s.encodes

  -- the set is one that section 2 allows
  pub stands_allowed : Allowed m L
  stands_allowed = subst (Allowed m) s.same (tree_allowed stands_wf)

  -- the height is one that a cell can tell of
  pub stands_low : m < 62
  stands_low = omega (arith, s.small_m)

  -- the tree, seen as d levels over parts of height k
  pub stands_root : (k d : ℕ) → m ≡ k + d → Encodes t (2 ^ m) 1 (over d k) s.tree
  stands_root k d e = let levels : m ≡ over d k = omega (arith, over_add d k) in subst (λ (x : ℕ). Encodes t (2 ^ m) 1 x s.tree) levels s.encodes
