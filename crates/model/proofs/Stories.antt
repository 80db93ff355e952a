-- Calls by name, so that the examples read as stories: `checks 20 "/in/fox"`. Assumes nothing.
use mathlib.Core.List.{List, []}
use Prim.Native.Nat.{ℕ}
use Prim.Native.String as S
use Rattle.model.specs.Records.{Call}
use Rattle.model.specs.Listing.{text}

unfoldable pub call : ℕ → ℕ → ℕ → List ℕ → List ℕ → Call
call p c a path1 path2 = record { call = c; process = p; argument = a; path1 = path1; path2 = path2; zeros = 0 }

abbrev pub enters : ℕ → ℕ → Call
enters p user = call p 1 user [] []

abbrev pub forks : ℕ → ℕ → Call
forks p child = call p 2 child [] []

abbrev pub execs : ℕ → Call
execs p = call p 3 0 [] []

abbrev pub exits : ℕ → Call
exits p = call p 4 0 [] []

abbrev pub checks : ℕ → S.String → Call
checks p path = call p 5 0 (text path) []

abbrev pub looks : ℕ → S.String → Call
looks p path = call p 6 0 (text path) []

abbrev pub uses : ℕ → S.String → Call
uses p path = call p 7 0 (text path) []

abbrev pub creates : ℕ → S.String → Call
creates p path = call p 8 0 (text path) []

abbrev pub mkdirs : ℕ → S.String → Call
mkdirs p path = call p 9 0 (text path) []

abbrev pub symlinks : ℕ → S.String → S.String → Call
symlinks p path target = call p 10 0 (text path) (text target)

abbrev pub links : ℕ → S.String → S.String → Call
links p new old = call p 11 0 (text new) (text old)

abbrev pub unlinks : ℕ → S.String → Call
unlinks p path = call p 12 0 (text path) []

abbrev pub rmdirs : ℕ → S.String → Call
rmdirs p path = call p 13 0 (text path) []
