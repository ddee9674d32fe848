-- The loop of `serve`: what holds when the requests up to a place have been served, from the first request to the last. Assumes nothing.
use Rattle.std.proofs.Common.{List, ◌%◌, ◌*◌, ◌++◌, ◌+◌, ◌<◌, ◌∙◌, ◌≡◌, ◌≤◌, arith, get_or, length, refl, take as first_of, take_all, ℕ}
use Rattle.arena.specs.Promises.{Kept}
use Rattle.meaning.specs.Answers.{Request}
use Rattle.sequence.proofs.Known.{Servable}
use Rattle.sequence.proofs.Numbers.{cost_more, first_length, two_more}
use Rattle.sequence.proofs.One.{kept_on, kept_same}
use Rattle.sequence.proofs.Serving.{in_turn_more, in_turn_none, in_turn_serves}
use Rattle.sequence.specs.Numbers.{as_request, numbers_of, requests_of}
use Rattle.sequence.specs.Serving.{Answered, InTurn, Promised, Serves, cost_all, cost_most, cost_of}

-- t₀ is the table at first, t and a the table and the answers when i requests have been served
pub record Going (m : ℕ) (requests : List ℕ) (places : ℕ) (t₀ t a : List ℕ) (i spent : ℕ) : Type 0 where
  pub all : Servable requests places
  pub most : 2 * i ≤ length requests
  pub long : length a ≡ places
  pub kept : Kept m t₀ t
  pub within : spent ≤ cost_all m (requests_of (first_of (2 * i) requests))
  pub few : spent ≤ cost_most * i
  pub in_turn : InTurn m (first_of (2 * i) requests) t₀ t (first_of (4 * i) a)

-- before the first request
pub going_start : (m : ℕ) (requests t a : List ℕ) → Servable requests (length a) → Going m requests (length a) t t a 0 0
going_start m requests t a all = record { all = all; most = omega arith; long = refl; kept = kept_same m t; within = omega arith; few = omega arith; in_turn = in_turn_none m t }

-- one request more
pub going_more : {m : ℕ} {requests : List ℕ} {places : ℕ} {t₀ t a t' a' numbers : List ℕ} {i spent : ℕ} {q : Request} (c : ℕ) → q ≡ as_request (get_or requests (2 * i) 0) (get_or requests (2 * i + 1) 0) → 2 * i < length requests → Going m requests places t₀ t a i spent → Answered m q t t' numbers → c ≤ cost_of m q → c ≤ cost_most → length a' ≡ length a → first_of (4 * i + 4) a' ≡ first_of (4 * i) a ++ numbers → Going m requests places t₀ t' a' (i + 1) (spent + c)
unfolding numbers_of
going_more {m} {requests} {places} {t₀} {t} {a} {t'} {a'} {numbers} {i} {spent} {q} c asked low g (r, said, one) cheap few long written =
    let k = get_or requests (2 * i) 0 in
    let n = get_or requests (2 * i + 1) 0 in
    let even : 2 * i % 2 ≡ 0 = omega arith in
    let two : 2 * i + 2 ≤ length requests = omega (arith, g.all.whole) in
    let place : 2 * (i + 1) ≡ 2 * i + 2 = omega arith in
    let place' : 4 * (i + 1) ≡ 4 * i + 4 = omega arith in
    let lr : length (first_of (2 * i) requests) ≡ 2 * i = first_length (2 * i) requests g.most in
    let one : Promised m (as_request k n) t t' r = rw asked at one in
    let cheap : c ≤ cost_of m (as_request k n) = rw asked at cheap in
    record {
      all = g.all;
      most = omega arith;
      long = long ∙ g.long;
      kept = kept_on g.kept one.kept;
      within = rw (place, cost_more m (2 * i) requests even two) (omega arith);
      few = omega arith;
      in_turn = rw (place, place', two_more (2 * i) requests two, written, said) (in_turn_more k n (first_of (2 * i) requests) (first_of (4 * i) a) (omega arith) g.in_turn one);
    }

-- after the last request
pub going_end : {m : ℕ} {requests : List ℕ} {places : ℕ} {t₀ t a : List ℕ} {i spent : ℕ} → length requests ≤ 2 * i → Going m requests places t₀ t a i spent → (spent ≤ cost_all m (requests_of requests)) × (Serves m requests t₀ t a × InTurn m requests t₀ t a)
going_end {m} {requests} {places} {t₀} {t} {a} {i} {spent} high g =
    let e = take_all (2 * i) requests high in
    let f = take_all (4 * i) a (omega (arith, g.all.fits, g.long)) in
    let run : InTurn m requests t₀ t a = rw (e, f) at g.in_turn in
    (rw e at g.within, (in_turn_serves requests g.all.whole run, run))
