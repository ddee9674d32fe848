-- Small laws of tests, and of what a search found. Assumes nothing.
use Rattle.std.proofs.Common.{Bool, ◌&&◌, ◌<◌, ◌||◌, ◌∙◌, ◌≡◌, ◌≤◌, ◌⊎◌, ap, false, inl, inr, not, refl, sym, true, ℕ, ⊎_elim}
use Rattle.std.proofs.Math.Bool.{not-not}
use Rattle.std.proofs.Math.Option.{Option, none, none-ne-some, some}
use Rattle.std.proofs.lemmas.Bool.{and_parts, both_ways, cases_lt}
use Rattle.meaning.specs.Search.{bind, has, or_else}
pub use Rattle.std.proofs.Math.Bool.{and-false as and_false, or-false as or_false}
-- a test passes or fails, with the equation
pub use Rattle.std.proofs.lemmas.Bool.{cases_Bool as split}

pub le_or_lt : (a b : ℕ) → (a ≤ b) ⊎ (b < a)
le_or_lt a b = ⊎_elim inr inl (cases_lt b a)

pub no_some {ℓ} : {A : Type ℓ} {B : Type 0} {a : A} → ◌≡◌ {A = Option A} none (some a) → B
no_some e = absurd (none-ne-some _ e)

pub contra : {B : Type 0} {b : Bool} → b ≡ true → b ≡ false → B
contra {b = b} t f = absurd (both_ways b f t)

pub and_left : (a b : Bool) → a && b ≡ true → a ≡ true
and_left a b e = (and_parts a b e).0

pub and_right : (a b : Bool) → a && b ≡ true → b ≡ true
and_right a b e = (and_parts a b e).1

pub not_inj : (a b : Bool) → not a ≡ not b → a ≡ b
not_inj a b e = sym (not-not a) ∙ (ap not e ∙ not-not b)

module _ {A : Type 0} where
  pub bind_some : (o : Option ℕ) (f : ℕ → Option A) {a : A} → bind o f ≡ some a → (k : ℕ) × (o ≡ some k) × (f k ≡ some a)
  unfolding bind
  bind_some none f e = no_some e
  bind_some (some k) f e = (k, refl, e)

  pub bind_none : (o : Option ℕ) (f : ℕ → A) → bind o (λ k. some (f k)) ≡ none → o ≡ none
  unfolding bind
  bind_none none f e = refl
  bind_none (some k) f e = no_some (sym e)

  pub or_else_some : (x y : Option A) {a : A} → or_else x y ≡ some a → (x ≡ some a) ⊎ (y ≡ some a)
  unfolding or_else
  or_else_some none y e = inr e
  or_else_some (some b) y e = inl e

  pub or_else_left : (x y : Option A) → or_else x y ≡ none → x ≡ none
  unfolding or_else
  or_else_left none y e = refl
  or_else_left (some a) y e = e

  pub or_else_right : (x y : Option A) → or_else x y ≡ none → y ≡ none
  unfolding or_else
  or_else_right none y e = e
  or_else_right (some a) y e = no_some (sym e)

  pub or_else_none : (x : Option A) → or_else x none ≡ x
  unfolding or_else
  or_else_none none = refl
  or_else_none (some a) = refl

  pub has_some : (o : Option A) → has o ≡ true → (a : A) × (o ≡ some a)
  unfolding has
  has_some none e = contra e refl
  has_some (some a) e = (a, refl)

  pub has_not : (o : Option A) → has o ≡ false → o ≡ none
  unfolding has
  has_not none e = refl
  has_not (some a) e = contra refl e

  -- where the first search found something, it decides; where it did not, the second does
  pub or_else_first : (x y : Option A) → has x ≡ true → or_else x y ≡ x
  unfolding has or_else
  or_else_first none y e = contra e refl
  or_else_first (some a) y e = refl

  pub or_else_second : (x y : Option A) → has x ≡ false → or_else x y ≡ y
  unfolding has or_else
  or_else_second none y e = refl
  or_else_second (some a) y e = contra refl e

  pub has_or : (x y : Option A) → has (or_else x y) ≡ has x || has y
  unfolding has or_else
  has_or none y = refl
  has_or (some a) y = refl

  pub has_bind : (o : Option ℕ) (f : ℕ → A) → has (bind o (λ k. some (f k))) ≡ has o
  unfolding has bind
  has_bind none f = refl
  has_bind (some k) f = refl
