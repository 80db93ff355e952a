-- One result: a function's own contract, met twice at the same arguments, leaves one result. `Post` is the claim that the check makes of
-- the `ensures` clauses, so that no second text of a contract is needed. Assumes nothing.
use mathlib.Core.Path.{◌≡◌}
use mathlib.Core.List.{List}
use Prim.Native.Nat.{ℕ}
use contract.Lifetimes.{Lfts}
use denote.Triple.Clauses.{AtExit}
use borrow.Fn.Kinds.{ParamKind, ResultKind, Out, Dens, res_t, ended_of}

abbrev pub OneResult : (n : ℕ) (ps : List (ParamKind n)) (r : ResultKind n) → Out n ps r → Type 0
OneResult n ps r Post =
    (κs : Lfts n) (a : Dens κs ps) (x y : (res_t r κs).Denot) (s t : AtExit (ended_of n ps r) κs) → Post κs a x s → Post κs a y t → x ≡ y

-- the same of what it leaves behind a reference: `left` reads that off the parameters at exit
abbrev pub OneExit : (n : ℕ) (ps : List (ParamKind n)) (r : ResultKind n) → Out n ps r → ((κs : Lfts n) → AtExit (ended_of n ps r) κs → List ℕ) → Type 0
OneExit n ps r Post left =
    (κs : Lfts n) (a : Dens κs ps) (x y : (res_t r κs).Denot) (s t : AtExit (ended_of n ps r) κs) → Post κs a x s → Post κs a y t
    → left κs s ≡ left κs t
