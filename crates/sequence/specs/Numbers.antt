-- Requests and answers as numbers: a request is two, its kind and its argument; an answer is four. Assumes nothing.
use Rattle.std.specs.Prelude.{Bool, ◌≡◌, ◌&&◌, false, true, List, [], ◌∷◌, IfOk, Result, is_ok, ◌*◌, ◌^◌, suc, zero, ℕ, eqb, leb, ltb, length}
use Rattle.meaning.specs.Answers.{Answer, Request, check_up, figures, give_back, start, take, which}
use Rattle.sequence.specs.declared.request.Request.{Request as Asked}
use Rattle.sequence.specs.declared.request.Request.TheVariants.{CheckUp, Figures, GiveBack, Start, Take, Which}
use Rattle.sequence.specs.declared.request.UnknownKind.{UnknownKind}

-- how many kinds of request there are, and how many requests one call serves at most
abbrev pub kind_count : ℕ
kind_count = 6

abbrev pub requests_most : ℕ
requests_most = 2 ^ 32

-- a request from its kind and its argument: 0 start, 1 take, 2 give back, 3 which, 4 figures, 5 check-up
unfoldable pub as_request : ℕ → ℕ → Request
as_request zero x = start
as_request (suc zero) x = take x
as_request (suc (suc zero)) x = give_back x
as_request (suc (suc (suc zero))) x = which x
as_request (suc (suc (suc (suc zero)))) x = figures
as_request (suc (suc (suc (suc (suc k))))) x = check_up

-- the request that a request in the code is
abbrev pub asks : Asked → Request
asks Start = start
asks (Take n) = take n
asks (GiveBack o) = give_back o
asks (Which o) = which o
asks Figures = figures
asks CheckUp = check_up

-- what is read from a kind and an argument: a request where the kind is known, and it is theirs
abbrev pub Reads : ℕ → ℕ → Result Asked UnknownKind → Type 0
Reads kind argument r = (is_ok r ≡ ltb kind kind_count) × IfOk r (λ asked. asks asked ≡ as_request kind argument)

-- the requests of a list of numbers
unfoldable pub requests_of : List ℕ → List Request
requests_of [] = []
requests_of (k ∷ []) = []
requests_of (k ∷ x ∷ rest) = as_request k x ∷ requests_of rest

-- the numbers of answers: refusal and three values each
unfoldable pub numbers_of : List Answer → List ℕ
numbers_of [] = []
numbers_of (a ∷ rest) = a.refusal ∷ a.first ∷ a.second ∷ a.third ∷ numbers_of rest

-- whole requests of known kinds
unfoldable pub known : List ℕ → Bool
known [] = true
known (k ∷ []) = false
known (k ∷ x ∷ rest) = ltb k kind_count && known rest

-- the requests can be served: whole ones of known kinds, not too many, and four places for each answer
unfoldable pub servable : List ℕ → ℕ → Bool
servable requests places = known requests && (leb (length requests) (2 * requests_most) && eqb places (2 * length requests))

-- the first request is start
unfoldable pub begins_with_start : List ℕ → Bool
begins_with_start [] = false
begins_with_start (k ∷ rest) = eqb k 0
