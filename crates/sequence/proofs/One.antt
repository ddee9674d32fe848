-- What the arena promises of each request is what serving one request promises. Assumes nothing.
use Rattle.std.proofs.Common.{Bool, List, ◌<◌, ◌∙◌, ◌≡◌, ◌≤◌, ap, arith, cond, false, le-leb, le-ltb, leb, length, lt-ltb, ltb, pow_mono, refl, suc, true, zero, ℕ}
use Rattle.arena.specs.Promises.{Exact, InOrder, Kept, RefusalAlone, Right, Started, at_once}
use Rattle.meaning.specs.Answers.{Answer, Request, after, answer, bad_argument, check_up, figures, give_back, refused, refused_at_once, start, take, which}
use Rattle.meaning.specs.Blocks.{Live, m_most}
use Rattle.table.specs.Table.{Stands, need}
use Rattle.sequence.specs.Numbers.{as_request}
use Rattle.sequence.specs.Serving.{Own, Promised, cost_most, cost_of}

-- where even start is refused, every request is, with the same number
start_refused : (enough : Bool) (m : ℕ) (q : Request) → 0 < refused_at_once enough m start → refused_at_once enough m q ≡ refused_at_once enough m start
unfolding refused_at_once bad_argument
start_refused enough m q p = go (ltb m_most m) enough p
  where
    go : (x y : Bool) → 0 < cond x 6 (cond y 0 5) → cond x 6 (cond y (bad_argument m q) 5) ≡ cond x 6 (cond y 0 5)
    go true y h = refl
    go false true h = absurd (omega arith)
    go false false h = refl

-- a table that stands for a set of live blocks is long enough, and m small enough
stands_starts : {m : ℕ} {L : Live} {t : List ℕ} → Stands m L t → at_once t m start ≡ 0
unfolding refused_at_once bad_argument
stands_starts {m} {L} {t} s = rw (le-ltb m_most m s.small_m, le-leb (need m) (length t) s.long) refl

-- m too large
large_m : {m : ℕ} (t : List ℕ) (q : Request) → m_most < m → at_once t m q ≡ 6
unfolding refused_at_once
large_m {m} t q l = rw (lt-ltb m_most m l) refl

-- a request is refused where even start is
pub refuses : {m : ℕ} {q : Request} {t t' : List ℕ} {r : Answer} → InOrder m q t r → RefusalAlone t t' r → 0 < at_once t m start → (r ≡ refused (at_once t m start)) × (t' ≡ t)
refuses {m} {q} {t} {t'} {r} o a p =
    let e = start_refused (leb (need m) (length t)) m q p in
    let f = o.told_at_once (rw e p) in
    let n : r.refusal ≡ at_once t m q = ap (λ (x : Answer). x.refusal) f in
    (rw e at f, a.cells (rw (n, e) p))

-- nothing changed is kept
pub kept_same : (m : ℕ) (t : List ℕ) → Kept m t t
kept_same m t = record { long = refl; beyond = refl }

-- start, whatever the table held, is right
pub start_right : {m : ℕ} {t t' : List ℕ} {r : Answer} → Started m t t' r → Right m start t t' r
unfolding answer after
start_right f L s = f (stands_starts s)

-- check-up is right
pub check_up_right : {m : ℕ} {t : List ℕ} {r : Answer} → Exact m t r → Right m check_up t t r
unfolding answer after
check_up_right x L s = (x.is_sound L s, s)

-- m too large
module _ {m : ℕ} (t : List ℕ) (large : m_most < m) where
  own_large_m : (q : Request) → Own m q t t (refused 6)
  own_large_m start = λ o. absurd (omega (arith, large_m t start large))
  own_large_m (take n) = λ z. absurd (omega arith)
  own_large_m (give_back o) = record {}
  own_large_m (which o) = (record { from = λ z. absurd (omega arith); to = λ z. absurd (omega arith); inside = λ z. absurd (omega arith) }, refl)
  own_large_m figures = refl
  own_large_m check_up = (
    record {
      verdict = λ o. absurd (omega (arith, large_m t check_up large));
      says_sound = λ s. absurd (let z : 6 ≡ 0 = ap (λ (x : Answer). x.refusal) s in omega arith);
      is_sound = λ L s. absurd (omega (arith, s.small_m));
    },
    refl,
  )

  pub one_large_m : (q : Request) → Promised m q t t (refused 6)
  one_large_m q = record {
    in_order = record { told_at_once = λ z. rw (large_m t q large) refl; or_later = λ z. absurd (omega (arith, large_m t q large)); formed = λ z. absurd (omega arith) };
    alone = record { values = λ z. refl; cells = λ z. refl };
    kept = kept_same m t;
    own = own_large_m q;
    right = λ L s. absurd (omega (arith, s.small_m));
  }

-- no request costs much
pub cost_most_lem : {m : ℕ} (q : Request) → m ≤ m_most → cost_of m q ≤ cost_most
unfolding cost_of
cost_most_lem {m} start l = omega (arith, pow_mono {i = m} {j = m_most} l)
cost_most_lem {m} (take n) l = omega arith
cost_most_lem {m} (give_back o) l = omega arith
cost_most_lem {m} (which o) l = omega arith
cost_most_lem {m} figures l = omega (arith, pow_mono {i = m} {j = m_most} l)
cost_most_lem {m} check_up l = omega (arith, pow_mono {i = m} {j = m_most} l)

-- ---- the request of a kind

-- the last kind of all
pub asked_check_up : (k n : ℕ) → 5 ≤ k → as_request k n ≡ check_up
unfolding as_request
asked_check_up zero n l = absurd (omega arith)
asked_check_up (suc zero) n l = absurd (omega arith)
asked_check_up (suc (suc zero)) n l = absurd (omega arith)
asked_check_up (suc (suc (suc zero))) n l = absurd (omega arith)
asked_check_up (suc (suc (suc (suc zero)))) n l = absurd (omega arith)
asked_check_up (suc (suc (suc (suc (suc k))))) n l = refl

-- what is kept twice is kept
pub kept_on : {m : ℕ} {t₀ t t' : List ℕ} → Kept m t₀ t → Kept m t t' → Kept m t₀ t'
kept_on p q = record { long = q.long ∙ p.long; beyond = q.beyond ∙ p.beyond }

-- what is promised of a request is promised of its kind and argument, and it costs little
pub one_of_kind : {m : ℕ} {q : Request} {t t' : List ℕ} {r : Answer} (k n spent : ℕ) → as_request k n ≡ q → m ≤ m_most → spent ≤ cost_of m q → Promised m q t t' r → Promised m (as_request k n) t t' r × ((spent ≤ cost_of m (as_request k n)) × (spent ≤ cost_most))
one_of_kind {m} {q} k n spent e l c one = rw e (one, (c, omega (arith, cost_most_lem q l)))
