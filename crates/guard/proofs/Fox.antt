-- The guard bites: 500 checks /fox, an absence, and 600 may not create it; it is still absent, and then 500 creates it and uses it. Computed
-- over `serve`, word by word; and the conditions of demand 3 are met here, so that it says something of this run. Assumes nothing.
use mathlib.Core.Path.{◌≡◌, refl}
use mathlib.Core.Bool.{true}
use mathlib.Core.Logic.{inl}
use mathlib.Core.List.{List, [], ◌∷◌, ◌++◌}
use Prim.Native.Nat.{ℕ}
use native.Mathlib.Omega.{arith}
use lib.Dec.{ltb}
use lib.ListN.{replicate}
use borrow.Author.Tests.{ltb-true}
use Rattle.model.specs.Lists.{all}
use Rattle.model.specs.Tables.{Process, no_process, listed, user_of}
use Rattle.model.specs.Words.{unpack}
use Rattle.model.specs.Records.{fields, write}
use Rattle.model.specs.Serve.{serve, after, answers, fresh_words, computing}
use Rattle.model.specs.Listing.{text}
use Rattle.model.specs.declared.Answer.TheVariants.{Held, Done, Refused}
use Rattle.model.proofs.Stories.{call, enters, checks, creates, uses}
use Rattle.laws.proofs.Each.{Each, each_weaker, passes_each}
use Rattle.laws.proofs.Pieces.{Byte}
use Rattle.guard.proofs.Demand3.{check_call, Asks, ByAnotherUser, its_process, AllByAnotherUser, others_first, last_first, Undisturbed}
use Rattle.guard.proofs.Guard.{demand_3}

unfoldable pub before : List (List ℕ)
before = write (enters 20 500) ∷ write (enters 30 600) ∷ []

unfoldable pub the_check : List ℕ
the_check = write (checks 20 "/fox")

unfoldable pub others : List (List ℕ)
others = write (creates 30 "/fox") ∷ []

unfoldable pub afterwards : List (List ℕ)
afterwards = write (creates 20 "/fox") ∷ write (uses 20 "/fox") ∷ []

pub the_guard_bites :
    answers fresh_words (before ++ (the_check ∷ others) ++ (the_check ∷ afterwards))
    ≡ Done 20 ∷ Done 30 ∷ Held 0 ∷ Refused 14 ∷ Held 0 ∷ Done 2 ∷ Held 2 ∷ []
unfolding computing text call before the_check others afterwards
the_guard_bites = refl

-- THE CONDITIONS OF DEMAND 3

are_bytes : (s : List ℕ) → all (λ b. ltb b 256) s ≡ true → Each Byte s
are_bytes s e = each_weaker (λ b. ltb-true b 256) (passes_each (λ b. ltb b 256) s e)

are_all_bytes : (records : List (List ℕ)) → all (all (λ b. ltb b 256)) records ≡ true → Each (Each Byte) records
are_all_bytes records e = each_weaker are_bytes (passes_each (all (λ b. ltb b 256)) records e)

-- who is listed after the check
abbrev now_listed : List Process
now_listed = record { number = 20; user = 500 } ∷ record { number = 30; user = 600 } ∷ replicate 62 no_process

listed_after : (unpack (serve (after fresh_words before) the_check).words).processes ≡ now_listed
unfolding computing text call before the_check
listed_after = refl

other_listed : listed now_listed 30 ≡ true
unfolding computing
other_listed = refl

others_user : user_of now_listed 30 ≡ 600
unfolding computing
others_user = refl

by_the_other : (w s : List ℕ) → (unpack w).processes ≡ now_listed → (fields s).process ≡ 30 → ByAnotherUser 500 w s
by_the_other w s now is =
    its_process (rw (now, is) other_listed)
    (rw (now, is, others_user) (record { not_U = omega arith; not_root = omega arith }))

others_create : (fields (write (creates 30 "/fox"))).process ≡ 30
unfolding computing text call
others_create = refl

all_by_the_other : AllByAnotherUser 500 (serve (after fresh_words before) the_check).words others
unfolding others
all_by_the_other =
    (by_the_other (serve (after fresh_words before) the_check).words (write (creates 30 "/fox")) listed_after others_create, tt)

check_read : Asks check_call 20 (text "/fox") the_check
unfolding computing text call the_check
check_read = refl

checkers_user : user_of (unpack (after fresh_words before)).processes 20 ≡ 500
unfolding computing text call before
checkers_user = refl

check_held : (serve (after fresh_words before) the_check).answer ≡ Held 0
unfolding computing text call before the_check
check_held = refl

before_bytes : Each (Each Byte) before
unfolding computing text call before
before_bytes = are_all_bytes before refl

check_bytes : Each Byte the_check
unfolding computing text call the_check
check_bytes = are_bytes the_check refl

others_bytes : Each (Each Byte) others
unfolding computing text call others
others_bytes = are_all_bytes others refl

-- the absence that the check was told is what the second check finds, and everything else is as if it had come directly
pub fox_undisturbed : Undisturbed (text "/fox") (fields the_check).call 0
    (others_first (serve (after fresh_words before) the_check).words others the_check)
    (last_first (serve (after fresh_words before) the_check).words others the_check)
fox_undisturbed =
    demand_3 before before_bytes 20 500 0 (text "/fox") the_check check_bytes check_read checkers_user check_held others others_bytes
    all_by_the_other the_check (inl check_read)
