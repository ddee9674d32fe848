-- A unit's whole life: what holds at every moment of every run, of the definitions and then of the code. Assumes nothing.
use Rattle.std.proofs.Common.{List, [], ◌%◌, ◌++◌, ◌∷◌, ◌≡◌, ◌≤◌, ◌⊎◌, length, refl, subst, sym, take as first_of, true, ℕ}
use mathlib.Core.List.{Memᴰ}
use Rattle.arena.specs.Promises.{Exact, at_once}
use Rattle.laws.proofs.Apart.{Disjoint, live_aligned, live_apart, live_inside}
use Rattle.laws.proofs.Exactly.{Given, Taken, give_back_removes, take_adds}
use Rattle.laws.proofs.Histories.{after_all_append, always_allowed}
use Rattle.laws.proofs.Refusals.{refused_only_if_none}
use Rattle.meaning.specs.Answers.{Answer, Request, after, answer, check_up, done, give_back, offset, refused, sound, start, take}
use Rattle.meaning.specs.Blocks.{Allowed, Block, Live, alignment, allowed_none, arena, ends, m_most}
use Rattle.meaning.specs.Candidates.{Candidate}
use Rattle.meaning.specs.Runs.{after_all}
use Rattle.table.proofs.OneTable.{some_table}
use Rattle.table.specs.Table.{Stands, need}
use Rattle.sequence.proofs.Alike.{same_cells}
use Rattle.sequence.specs.Numbers.{begins_with_start, requests_of}
use Rattle.sequence.specs.Serving.{Promised, Serves}

-- ---- of the definitions

-- the moment when the requests rs have been served, from no live block on
pub record Moment (m : ℕ) (rs : List Request) : Type 0 where
  -- the live blocks are a set that section 2 allows, and a check-up says sound: the set has a table
  pub allowed : Allowed m (after_all m [] rs)
  pub check_up : answer m (after_all m [] rs) check_up ≡ sound
  pub has_table : m ≤ m_most → (t : List ℕ) × Stands m (after_all m [] rs) t × (length t ≡ need m)
  -- two live blocks are one or have no byte in common; each lies inside the arena, aligned
  pub apart : (b x : Block) → Memᴰ b (after_all m [] rs) → Memᴰ x (after_all m [] rs) → (b ≡ x) ⊎ Disjoint b x
  pub inside : (b : Block) → Memᴰ b (after_all m [] rs) → ends b ≤ arena m
  pub aligned : (b : Block) → Memᴰ b (after_all m [] rs) → b.start % alignment b.size ≡ 0
  -- a take that is granted now gets the lowest candidate and adds this block alone; one that is refused with 3 has no candidate
  pub taken : (n o : ℕ) → answer m (after_all m [] rs) (take n) ≡ offset o → Taken m (after_all m [] rs) n o
  pub not_taken : (n : ℕ) → answer m (after_all m [] rs) (take n) ≡ refused 3 → (b : Block) → Candidate m (after_all m [] rs) n b → ⊥
  -- a give back that is granted now removes the block that starts there alone
  pub given : (o : ℕ) → answer m (after_all m [] rs) (give_back o) ≡ done → Given m (after_all m [] rs) o

-- every moment of every run is such a moment
pub every_moment : (m : ℕ) (rs : List Request) → Moment m rs
unfolding answer
every_moment m rs =
    let a : Allowed m (after_all m [] rs) = always_allowed rs allowed_none in
    record {
      allowed = a;
      check_up = refl;
      has_table = λ s. some_table s a;
      apart = λ b x. live_apart a;
      inside = λ b. live_inside a;
      aligned = λ b. live_aligned a;
      taken = λ n o. take_adds n o a;
      not_taken = λ n. refused_only_if_none m (after_all m [] rs) n;
      given = λ o. give_back_removes o a;
    }

-- ---- of the code

-- t is the table of a unit that has been served the requests rs, by calls of `serve` or one at a time, the first of which was a start that was not refused
pub data Lived (m : ℕ) : List Request → List ℕ → Type 0 where
  born : (requests t t' a' : List ℕ) → begins_with_start requests ≡ true → at_once t m start ≡ 0 → Serves m requests t t' a' → Lived m (requests_of requests) t'
  lived : (rs : List Request) (requests t t' a' : List ℕ) → Lived m rs t → Serves m requests t t' a' → Lived m (rs ++ requests_of requests) t'
  began : (t t' : List ℕ) (r : Answer) → at_once t m start ≡ 0 → Promised m start t t' r → Lived m (start ∷ []) t'
  asked : (rs : List Request) (q : Request) (t t' : List ℕ) (r : Answer) → Lived m rs t → Promised m q t t' r → Lived m (rs ++ (q ∷ [])) t'

-- the table stands for the live blocks of the run
pub lived_stands : {m : ℕ} {rs : List Request} {t : List ℕ} → Lived m rs t → Stands m (after_all m [] rs) t
unfolding after_all after
lived_stands (born requests t t' a' b o s) = (s.from_start b o).1
lived_stands {m} (lived rs requests t t' a' l s) = subst (λ (L : Live). Stands m L t') (sym (after_all_append m [] rs (requests_of requests))) (s.right (after_all m [] rs) (lived_stands l)).1
lived_stands (began t t' r o p) = (p.own o).1
lived_stands {m} (asked rs q t t' r l p) = subst (λ (L : Live). Stands m L t') (sym (after_all_append m [] rs (q ∷ []))) (p.right (after_all m [] rs) (lived_stands l)).1

-- so a check-up says sound
pub lived_sound : {m : ℕ} {rs : List Request} {t : List ℕ} {r : Answer} → Lived m rs t → Exact m t r → r ≡ sound
lived_sound {m} {rs} l x = x.is_sound (after_all m [] rs) (lived_stands l)

-- and two units whose runs leave the same live blocks have the same needed cells, however different their lives were
pub lived_alike : {m : ℕ} {rs rs' : List Request} {t t' : List ℕ} → Lived m rs t → Lived m rs' t' → after_all m [] rs ≡ after_all m [] rs' → first_of (need m) t ≡ first_of (need m) t'
lived_alike {m} {t' = t'} l l' e = same_cells (lived_stands l) (subst (λ (L : Live). Stands m L t') (sym e) (lived_stands l'))
