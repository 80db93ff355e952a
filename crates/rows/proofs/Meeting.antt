-- A call's tests one by one: the first that applies refuses and leaves every word, and behind the last the call is granted. Assumes nothing.
use mathlib.Core.Path.{◌≡◌, refl, sym, ap, subst, ◌∙◌}
use mathlib.Core.Bool.{Bool, true, false}
use mathlib.Core.List.{List}
use Prim.Native.Nat.{ℕ}
use Rattle.model.specs.Refusals.{Outcome, refused, granted, ◌when◌, ◌>>◌}
use Rattle.model.specs.Tables.{Tables, Hold, with_holds}
use Rattle.model.specs.Words.{pack, unpack}
use Rattle.model.specs.Holds.{add_holds}
use Rattle.model.specs.Calls.{Change, grant}
use Rattle.model.specs.Serve.{served}
use Rattle.model.specs.declared.Answer.{Answer}
use Rattle.model.specs.declared.Answer.TheVariants.{Refused}
use Rattle.rows.specs.Stands.{Stands, Becomes}
use Rattle.rows.specs.Meets.{answer_of, words_of, Meets}

-- what is promised is what the model serves
pub served_is : (w : List ℕ) (n : ℕ) (o : Outcome Change) → served w n o ≡ record { answer = answer_of o; taken = n; words = words_of w o }
unfolding served answer_of words_of
served_is w n (refused k) = refl
served_is w n (granted c) = refl

module _ (n : ℕ) (test : Bool) (rest : Outcome Change) {w : List ℕ} {b : Bool} where
  pub refuses : b ≡ test → b ≡ true → Meets w ((n when test) >> rest) (Refused n) w
  unfolding ◌>>◌ answer_of words_of
  refuses e t = let k : test ≡ true = sym e ∙ t in rw k (record { answer = refl; words = refl })

  pub passes : b ≡ test → b ≡ false → {r : Answer} {v : List ℕ} → Meets w rest r v → Meets w ((n when test) >> rest) r v
  unfolding ◌>>◌
  passes e t m = let k : test ≡ false = sym e ∙ t in rw k m

pub meets_as : {w v : List ℕ} {r : Answer} {o m : Outcome Change} → o ≡ m → Meets w m r v → Meets w o r v
meets_as {w} {v} {r} e m = subst (λ (x : Outcome Change). Meets w x r v) (sym e) m

-- what is refused whatever stands in the tables
pub refused_outright : (w : List ℕ) (n : ℕ) → Meets w (refused n) (Refused n) w
unfolding answer_of words_of
refused_outright w n = record { answer = refl; words = refl }

-- CHAINS OF TESTS, one stage after the other: a test that is put in later changes its own stage alone

-- behind some tests of a call, none of which applied: what is left of it, and that this decides the whole
pub record Past (w : List ℕ) (whole : Outcome Change) : Type 0 where
  pub rest : Outcome Change
  pub meets : {a : Answer} {v : List ℕ} → Meets w rest a v → Meets w whole a v

abbrev pub at_first : (w : List ℕ) (whole : Outcome Change) → Past w whole
at_first w whole = record { rest = whole; meets = λ m. m }

module _ {w : List ℕ} {whole : Outcome Change} (p : Past w whole) (n : ℕ) (test : Bool) (rest : Outcome Change) (next : p.rest ≡ ((n when test) >> rest))
    {b : Bool} (e : b ≡ test) where
  abbrev pub past_test : b ≡ false → Past w whole
  past_test left = record { rest = rest; meets = λ m. p.meets (meets_as next (passes n test rest e left m)) }

  pub refused_at : b ≡ true → Meets w whole (Refused n) w
  refused_at taken = p.meets (meets_as next (refuses n test rest e taken))

pub grants : {w v : List ℕ} {a r : Answer} {t : Tables} → r ≡ a → Becomes v t → Meets w (grant a t) r v
unfolding answer_of words_of
grants e b = record { answer = e; words = sym b.stands.same ∙ ap pack b.tables }

-- one edit behind another
pub then_becomes : (f : Tables → Tables) {t : Tables} {v u : List ℕ} → Becomes v t → Becomes u (f (unpack v)) → Becomes u (f t)
then_becomes f a b = record { stands = b.stands; tables = b.tables ∙ ap f a.tables }

pub unchanged : {w : List ℕ} → Stands w → Becomes w (unpack w)
unchanged s = record { stands = s; tables = refl }

-- holds dropped, and then the new ones added
pub holds_taken : (t : Tables) {dropped news want : List Hold} {v u : List ℕ} → news ≡ want → Becomes v (with_holds t dropped)
    → Becomes u (with_holds (unpack v) (add_holds news (unpack v).holds)) → Becomes u (with_holds t (add_holds want dropped))
holds_taken t {dropped} {news} e a b =
    record {
      stands = b.stands;
      tables = b.tables ∙ ap (λ s. with_holds s (add_holds news s.holds)) a.tables ∙ ap (λ l. with_holds t (add_holds l dropped)) e;
    }

-- ONE RESULT: what is promised twice of the same call is one answer and the same words

pub becomes_once : {t : Tables} {v u : List ℕ} → Becomes v t → Becomes u t → v ≡ u
becomes_once a b = sym a.stands.same ∙ ap pack (a.tables ∙ sym b.tables) ∙ b.stands.same

pub answers_once : {w : List ℕ} {o : Outcome Change} {x y : Answer} {v u : List ℕ} → Meets w o x v → Meets w o y u → x ≡ y
answers_once a b = a.answer ∙ sym b.answer

pub words_once : {w : List ℕ} {o : Outcome Change} {x y : Answer} {v u : List ℕ} → Meets w o x v → Meets w o y u → v ≡ u
words_once a b = a.words ∙ sym b.words
