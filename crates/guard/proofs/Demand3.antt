-- Demand 3, stated over the model's `serve` from fresh tables: `Demand3` is the claim, its conclusions stand by name in `Undisturbed`, and what
-- it is said with is defined here. Assumes nothing.
use mathlib.Core.Path.{◌≡◌}
use mathlib.Core.Bool.{true, false, ◌&&◌}
use mathlib.Core.Logic.{◌≢◌, ◌⊎◌}
use mathlib.Core.List.{List, [], ◌∷◌}
use Prim.Native.Nat.{ℕ}
use lib.Dec.{eqb}
use Rattle.model.specs.Refusals.{Outcome, refused, granted}
use Rattle.model.specs.Tables.{listed, user_of}
use Rattle.model.specs.Words.{unpack}
use Rattle.model.specs.Records.{Call, fields, short, read}
use Rattle.model.specs.Walk.{Goal, walk}
use Rattle.model.specs.Serve.{serve, after, answers, fresh_words}
use Rattle.model.specs.declared.Answer.{Answer}
use Rattle.model.specs.declared.Answer.TheVariants.{Held, Refused}
use Rattle.laws.proofs.Each.{Each}
use Rattle.laws.proofs.Pieces.{Byte}

-- THE CALLS

abbrev pub enter_call : ℕ
enter_call = 1

-- those that check and use a path
abbrev pub check_call : ℕ
check_call = 5

abbrev pub use_call : ℕ
use_call = 7

-- process p's call with this path
abbrev pub request : ℕ → ℕ → List ℕ → Call
request call p path = record { call = call; process = p; argument = 0; path1 = path; path2 = []; zeros = 0 }

-- the bytes are its record, as it is read: what stands behind the record does not count
abbrev pub Asks : ℕ → ℕ → List ℕ → List ℕ → Type 0
Asks call p path s = read s ≡ granted (request call p path)

-- BY ANOTHER USER

-- neither user U nor root
pub record AnotherUser (U user : ℕ) : Type 0 where
  pub not_U : user ≢ U
  pub not_root : user ≢ 0

-- A record that is served while the words are w. Records that are refused count, damaged ones too; one that ends too soon to be a call of
-- any process counts whoever sent it.
pub data ByAnotherUser (U : ℕ) (w s : List ℕ) : Type 0 where
  its_process : listed (unpack w).processes (fields s).process ≡ true →
      AnotherUser U (user_of (unpack w).processes (fields s).process) → ByAnotherUser U w s
  an_enter : (fields s).call ≡ enter_call → AnotherUser U (fields s).argument → ByAnotherUser U w s
  cut_off : short s ≡ true → ByAnotherUser U w s

-- each of the records, when its turn comes
abbrev pub AllByAnotherUser : ℕ → List ℕ → List (List ℕ) → Type 0
AllByAnotherUser U w [] = Unit {0}
AllByAnotherUser U w (s ∷ rest) = ByAnotherUser U w s × AllByAnotherUser U (serve w s).words rest

-- WHERE A PATH LEADS

-- by which links, to which end entry, and to which node or absence there
abbrev pub leads : List ℕ → List ℕ → Outcome Goal
leads w path = walk (unpack w).entries (unpack w).nodes true path

-- of that the node alone, 0 for an absence
abbrev pub node_of : Outcome Goal → Outcome ℕ
node_of (refused n) = refused n
node_of (granted g) = granted g.node

-- what a check or a use owes to a process that holds a path to this node: held with the node, but 10 where an absence is used
abbrev pub owed : ℕ → ℕ → Answer
owed call node = elim (eqb call use_call && eqb node 0) as (λ _. Answer) [ true ↦ Refused 10 | false ↦ Held node ]

-- THE TWO ORDERS

-- What comes of the last call and the others' records, in one order or the other.
pub record Order : Type 0 where
  -- the words that the last call finds, and those that it leaves
  pub words_found : List ℕ
  pub words_left : List ℕ
  -- what it is answered, and what the others are
  pub last_answer : Answer
  pub other_answers : List Answer
  -- the words when all are served
  pub final_words : List ℕ

-- from words w the others' records, and then the last call
abbrev pub others_first : List ℕ → List (List ℕ) → List ℕ → Order
others_first w others last =
    record {
      words_found = after w others;
      words_left = (serve (after w others) last).words;
      last_answer = (serve (after w others) last).answer;
      other_answers = answers w others;
      final_words = (serve (after w others) last).words;
    }

-- from words w the last call directly, and then the others' records
abbrev pub last_first : List ℕ → List (List ℕ) → List ℕ → Order
last_first w others last =
    record {
      words_found = w;
      words_left = (serve w last).words;
      last_answer = (serve w last).answer;
      other_answers = answers (serve w last).words others;
      final_words = after (serve w last).words others;
    }

-- THE CONCLUSIONS

-- The last call, whose number is `call`, finds what the check was told.
pub record AsTold (path : List ℕ) (call node : ℕ) (order : Order) : Type 0 where
  -- the path leads to the very node, or to the absence
  pub same_node : node_of (leads order.words_found path) ≡ granted node
  -- the answer is held with it, or 10 where an absence is used
  pub right_answer : order.last_answer ≡ owed call node
  -- and no bit changes
  pub no_change : order.words_left ≡ order.words_found

-- The run with the others' records first, beside the run in which the last call came directly.
pub record Undisturbed (path : List ℕ) (call node : ℕ) (late direct : Order) : Type 0 where
  -- in both the last call finds what the check was told
  pub told_late : AsTold path call node late
  pub told_direct : AsTold path call node direct
  -- the path leads there by the same way: the links and the end entry are the same
  pub same_way : leads late.words_found path ≡ leads direct.words_found path
  -- the last call's answer is the same
  pub same_last : late.last_answer ≡ direct.last_answer
  -- everybody else's answers are the same
  pub same_others : late.other_answers ≡ direct.other_answers
  -- and so are the bits at the end
  pub same_words : late.final_words ≡ direct.final_words

-- THE CLAIM

abbrev pub Demand3 : Type 0
Demand3 =
    -- any records, from fresh tables
    (before : List (List ℕ)) → Each (Each Byte) before →
    -- user U's process p checks a path and is told that it holds it, with this node or absence
    (p U node : ℕ) (path first : List ℕ) → Each Byte first → Asks check_call p path first →
    user_of (unpack (after fresh_words before)).processes p ≡ U → (serve (after fresh_words before) first).answer ≡ Held node →
    -- calls by other users, none of them root
    (others : List (List ℕ)) → Each (Each Byte) others →
    AllByAnotherUser U (serve (after fresh_words before) first).words others →
    -- the same process checks or uses that path
    (last : List ℕ) → Asks check_call p path last ⊎ Asks use_call p path last →
    Undisturbed path (fields last).call node
    (others_first (serve (after fresh_words before) first).words others last)
    (last_first (serve (after fresh_words before) first).words others last)
