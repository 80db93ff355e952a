-- The plan of holds to take: each row of it may be written, and all of them are what the model takes. Assumes nothing.
use mathlib.Core.Path.{◌≡◌, refl, sym, ap, subst, ◌∙◌}
use mathlib.Core.Bool.{Bool, true, false, ◌&&◌, ◌||◌}
use mathlib.Core.List.{List, [], ◌∷◌, ◌++◌, map, map-append, append-nil}
use mathlib.Core.Option.{Option, none, some}
use Prim.Native.Nat.{ℕ, ◌+◌, ◌≤◌, ◌<◌}
use native.Mathlib.Omega.{arith}
use native.Mathlib.Numerals.{add-one}
use borrow.Author.Tests.{le-ltb}
use lib.Dec.{eqb, ltb}
use Rattle.std.specs.List.{list_any}
use Rattle.std.specs.Prelude.{Some, None}
use lib.ListN.{length, get_or, set, take, drop, length-append, length-take, length-map, drop_of_length-le}
use lib.Seq.{take_all, take-suc}
use Rattle.model.specs.Lists.{same, filled, any, count, put, put_all}
use Rattle.model.specs.Tables as model_tables
use Rattle.model.specs.Tables.{Tables, Hold, free_hold, end_role, element_role, same_place, with_holds}
use Rattle.model.specs.Sound.{same_hold}
use Rattle.model.specs.Words.{pack_name, unpack_name, pack_hold, unpack_hold, bits, bytes, words, unpack}
use Rattle.model.specs.Holds.{hold_by, end_wanted, wanted, lacking, no_room, add_holds}
use Rattle.laws.proofs.Bools.{or_right, neither}
use Rattle.laws.proofs.Each.{Each, none as no_row, one, each_append, each_head, each_tail, each_at, each_take}
use Rattle.laws.proofs.Loops.{rest_at}
use Rattle.laws.proofs.Members.{each_in, at_in}
use Rattle.laws.proofs.Pieces.{same_self}
use Rattle.rows.specs.declared.HoldRow.{HoldRow}
use Rattle.rows.specs.Blocks.{Named, same_block, name_of, place_of}
use Rattle.rows.specs.Rows.{hold_of}
use Rattle.rows.specs.Stands.{Stands, Becomes}
use Rattle.rows.proofs.Blocks.{same_block_is, same_blocks_same_names}
use Rattle.search.specs.Rows.{first_row}
use Rattle.search.proofs.Rows.{put_found, put_missing}
use Rattle.edits.proofs.Written.{good_hold}
use Rattle.goals.specs.declared.Place.{Place}
use Rattle.goals.specs.declared.Stop.TheVariants.{Entry}
use Rattle.goals.specs.declared.Walk.{Walk}
use Rattle.goals.specs.Goals.{goal_of, place_at, blank, PlaceNamed, WalkNamed}
use Rattle.plans.specs.Plans.{Fine, blank_row, plan_room, Plan, Planned, same_rows, planned_holds, Wished, PlaceUsed, StopUsed, WalkUsed, wanted_row, element_holds, PlanFor}
use Rattle.plans.proofs.Lacking.{any_append, had_already, had_not, lacking_append}
use Rattle.holds.proofs.Towards.{Towards, begin, go_on, arrive}

-- TWO HOLDS AS THE CODE HAS THEM

pub same_rows_same_holds : (a b : HoldRow) → Named a.name → Named b.name → same_rows a b ≡ same_hold (hold_of a) (hold_of b)
unfolding same_hold hold_of same_place place_of
same_rows_same_holds a b f g =
    ap (λ x. eqb a.process b.process && eqb a.role b.role && (eqb a.directory b.directory && x)) (same_blocks_same_names a.name b.name f g)

-- a test of rows for one hold
pub any_same : (h : HoldRow) → Named h.name → (rows : List HoldRow) → Each Fine rows → list_any (same_rows h) rows ≡ any (same_hold (hold_of h)) (map hold_of rows)
unfolding any
any_same h n [] e = refl
any_same h n (r ∷ rows) e =
    ap (λ b. b || list_any (same_rows h) rows) (same_rows_same_holds h r n (each_head e).name)
    ∙ ap (λ b. same_hold (hold_of h) (hold_of r) || b) (any_same h n rows (each_tail e))

-- THE ROWS OF A PLAN

pub blank_fine : Fine blank_row
unfolding Named name_of hold_of place_of pack_hold unpack_hold free_hold pack_name unpack_name words bytes bits filled
blank_fine = record { good = record { words = refl; fits = refl }; name = refl; role = omega arith }

module _ (p : Plan) where
  planned_long : length (planned_holds p) ≡ length p
  unfolding planned_holds
  planned_long = length-map p hold_of

  pub room_is : (t : Tables) {n : ℕ} → n ≡ count free_hold t.holds → ltb n (length p) ≡ no_room t (planned_holds p)
  unfolding no_room
  room_is t e = ap (λ k. ltb k (length p)) e ∙ ap (ltb (count free_hold t.holds)) (sym planned_long)

  -- where nothing is planned nothing is lacking
  pub room_for_none : (t : Tables) → length p ≡ 0 → false ≡ no_room t (planned_holds p)
  room_for_none t z = sym (le-ltb (count free_hold t.holds) (length p) (omega arith)) ∙ room_is t refl

-- ONE HOLD WISHED FOR

module _ (have : List Hold) (p : Plan) (ok : Planned p) (h : HoldRow) where
  not_lacking : any (same_hold (hold_of h)) (planned_holds p ++ have) ≡ true → Wished have p h p
  unfolding lacking
  not_lacking e =
      record {
        is = sym (ap (λ l. planned_holds p ++ l) (had_already (planned_holds p ++ have) (hold_of h) [] e) ∙ append-nil (planned_holds p));
        planned = ok;
        more = omega arith;
      }

  pub held_before : {b : Bool} → b ≡ any (same_hold (hold_of h)) have → b ≡ true → Wished have p h p
  held_before e t =
      not_lacking (any_append (same_hold (hold_of h)) (planned_holds p) have ∙ or_right (any (same_hold (hold_of h)) (planned_holds p)) (sym e ∙ t))

  module _ {b c : Bool} (e : b ≡ any (same_hold (hold_of h)) have) (t : b ≡ false) (f : c ≡ any (same_hold (hold_of h)) (planned_holds p)) where
    pub planned_before : c ≡ true → Wished have p h p
    planned_before u =
        not_lacking
        (any_append (same_hold (hold_of h)) (planned_holds p) have
        ∙ ap (λ x. x || any (same_hold (hold_of h)) have) (sym f ∙ u))

    pub planned_new : c ≡ false → length p < plan_room → Fine h → {q : Plan} → q ≡ p ++ (h ∷ []) → Wished have p h q
    unfolding planned_holds lacking
    planned_new u room fine e' =
        let none : any (same_hold (hold_of h)) (planned_holds p ++ have) ≡ false
        = any_append (same_hold (hold_of h)) (planned_holds p) have ∙ neither (sym f ∙ u) (sym e ∙ t) in
        let long : length (p ++ (h ∷ [])) ≡ length p + 1 = length-append p (h ∷ []) in
        record {
          is = ap (map hold_of) e' ∙ map-append hold_of p (h ∷ [])
              ∙ ap (λ l. planned_holds p ++ l) (sym (had_not (planned_holds p ++ have) (hold_of h) [] none));
          planned = record { few = omega (arith, ap length e', long); fine = subst (Each Fine) (sym e') (each_append ok.fine (one fine no_row)) };
          more = omega (arith, ap length e', long);
        }

-- A PLAN GROWS BY ONE HOLD

module _ (have : List Hold) where
  pub plan_none : {q : Plan} → q ≡ [] → PlanFor have [] q
  unfolding planned_holds lacking
  plan_none e =
      record {
        is = ap (map hold_of) e;
        planned = record { few = omega (arith, ap length e); fine = subst (Each Fine) (sym e) no_row };
        few = omega (arith, ap length e);
      }

  pub plan_on : (wants : List Hold) {p q : Plan} {h : HoldRow} → PlanFor have wants p → Wished have p h q → PlanFor have (wants ++ (hold_of h ∷ [])) q
  plan_on wants {h = h} a b =
      record {
        is = b.is ∙ ap (λ m. m ++ lacking (m ++ have) (hold_of h ∷ [])) a.is ∙ sym (lacking_append have wants (hold_of h ∷ []));
        planned = b.planned;
        few = omega (arith, b.more, a.few, length-append wants (hold_of h ∷ []));
      }

-- THE ELEMENTS, then the end

module _ (p role : ℕ) (q : Place) {h : HoldRow} (e : h ≡ wanted_row p role q) where
  wanted_is : hold_of h ≡ hold_by p role (place_at q)
  unfolding hold_of hold_by place_at
  wanted_is = ap hold_of e

  pub wanted_fine : p < 65536 → role < 4 → PlaceNamed q → PlaceUsed q → Fine h
  unfolding PlaceNamed
  wanted_fine a r n u = subst Fine (sym e) (record { good = good_hold (wanted_row p role q) u.some u.fits a r n; name = n; role = r })

pub taken_few : {A : Type 0} (n : ℕ) (l : List A) → length (take n l) ≤ n
taken_few n l = simp length-take (omega arith)

pub elements_few : (p n : ℕ) (elements : List Place) → length (element_holds p n elements) ≤ n
unfolding element_holds
elements_few p n elements =
    omega (arith, length-map (map place_at (take n elements)) (hold_by p element_role), length-map (take n elements) place_at, taken_few n elements)

module _ (p : ℕ) (elements : List Place) (have : List Hold) where
  pub gather_begin : {q : Plan} → q ≡ [] → PlanFor have (element_holds p 0 elements) q
  unfolding element_holds
  gather_begin e = plan_none have e

  pub gather_step : (i : ℕ) {q r : Plan} {h : HoldRow} → i < length elements → PlanFor have (element_holds p i elements) q
      → h ≡ wanted_row p element_role (get_or elements i blank) → Wished have q h r → PlanFor have (element_holds p (i + 1) elements) r
  unfolding element_holds
  gather_step i {r = r} {h = h} below a e b =
      let s : element_holds p (i + 1) elements ≡ element_holds p i elements ++ (hold_of h ∷ [])
      = ap (λ k. element_holds p k elements) (add-one i)
      ∙ ap (λ l. map (hold_by p element_role) (map place_at l)) (take-suc elements i blank below)
      ∙ ap (map (hold_by p element_role)) (map-append place_at (take i elements) (get_or elements i blank ∷ []))
      ∙ map-append (hold_by p element_role) (map place_at (take i elements)) (place_at (get_or elements i blank) ∷ [])
      ∙ ap (λ y. element_holds p i elements ++ (y ∷ [])) (sym (wanted_is p element_role (get_or elements i blank) e)) in
      subst (λ l. PlanFor have l r) (sym s) (plan_on have (element_holds p i elements) a b)

-- those of the first n, when all of them are met
pub gather_end : (p n : ℕ) (elements : List Place) (have : List Hold) (i : ℕ) {q : Plan} → length (take n elements) ≤ i
    → PlanFor have (element_holds p i (take n elements)) q → PlanFor have (element_holds p n elements) q
unfolding element_holds
gather_end p n elements have i {q} b g = subst (λ l. PlanFor have (map (hold_by p element_role) (map place_at l)) q) (take_all i (take n elements) b) g

module _ (have : List Hold) (p : ℕ) (w : Walk) {q : Plan} (g : PlanFor have (element_holds p w.count w.elements) q) where
  with_the_end : (o : Option model_tables.Place) → (goal_of w).end ≡ o → element_holds p w.count w.elements ++ end_wanted p o ≡ wanted p (goal_of w)
  unfolding wanted element_holds goal_of
  with_the_end o e = ap (λ x. element_holds p w.count w.elements ++ end_wanted p x) (sym e)

  pub plan_without_end : (goal_of w).end ≡ none → PlanFor have (wanted p (goal_of w)) q
  unfolding end_wanted
  plan_without_end e =
      subst (λ l. PlanFor have l q) (sym (append-nil (element_holds p w.count w.elements)) ∙ with_the_end none e) g

  pub plan_with_end : {s : Place} {h : HoldRow} {r : Plan} → (goal_of w).end ≡ some (place_at s) → h ≡ wanted_row p end_role s → Wished have q h r
      → PlanFor have (wanted p (goal_of w)) r
  unfolding end_wanted
  plan_with_end {s} {h} {r} e x b =
      let elements = element_holds p w.count w.elements in
      subst (λ l. PlanFor have l r)
      (ap (λ y. elements ++ (y ∷ [])) (wanted_is p end_role s x) ∙ with_the_end (some (place_at s)) e)
      (plan_on have elements g b)

-- WHAT IS KNOWN OF THE PLACES

pub element_named : (w : Walk) → WalkNamed w → (i : ℕ) → PlaceNamed (get_or (take w.count w.elements) i blank)
unfolding PlaceNamed Named blank name_of pack_name unpack_name words bytes bits filled
element_named w n i = each_at {d = blank} (each_take w.count n.elements) refl i

pub element_used : (w : Walk) → WalkUsed w → (i : ℕ) → i < length (take w.count w.elements) → PlaceUsed (get_or (take w.count w.elements) i blank)
element_used w u i h = each_in u.elements (at_in (take w.count w.elements) i blank h)

pub end_used : (w : Walk) → WalkUsed w → {q : Place} {k : ℕ} → w.stop ≡ Entry q k → PlaceUsed q
unfolding StopUsed
end_used w u e = subst StopUsed e u.stop

-- ONE PLAN ALONE is for given holds: a row that may be written is known by its hold

one_row : (a b : HoldRow) → Fine a → Fine b → hold_of a ≡ hold_of b → a ≡ b
unfolding hold_of place_of
one_row a b f g e =
    let names : name_of a.name ≡ name_of b.name = ap (λ (h : Hold). h.place.name) e in
    let same_name : same_block a.name b.name ≡ true
    = same_blocks_same_names a.name b.name f.name g.name ∙ ap (λ n. same n (name_of b.name)) names ∙ same_self (name_of b.name) in
    let directory : a.directory ≡ b.directory = ap (λ (h : Hold). h.place.directory) e in
    let process : a.process ≡ b.process = ap (λ (h : Hold). h.process) e in
    let role : a.role ≡ b.role = ap (λ (h : Hold). h.role) e in
    λ i. record { directory = directory i; process = process i; name = same_block_is a.name b.name same_name i; role = role i }

one_list : (xs ys : List HoldRow) → Each Fine xs → Each Fine ys → map hold_of xs ≡ map hold_of ys → xs ≡ ys
one_list [] [] f g e = refl
one_list [] (y ∷ ys) f g e = cc
one_list (x ∷ xs) [] f g e = cc
one_list (x ∷ xs) (y ∷ ys) f g e =
    let heads : hold_of x ≡ hold_of y = cc in
    let tails : map hold_of xs ≡ map hold_of ys = cc in
    let head = one_row x y (each_head f) (each_head g) heads in
    let tail = one_list xs ys (each_tail f) (each_tail g) tails in
    ap (λ z. z ∷ xs) head ∙ ap (λ l. y ∷ l) tail

pub one_plan : {have wants : List Hold} {p q : Plan} → PlanFor have wants p → PlanFor have wants q → p ≡ q
unfolding planned_holds
one_plan {p = p} {q = q} a b = one_list p q a.planned.fine b.planned.fine (a.is ∙ sym b.is)

-- ADDING

module _ (w : List ℕ) (h : HoldRow) where
  pub hold_added : {k : ℕ} → Some k ≡ first_row free_hold (unpack w).holds → {v : List ℕ}
      → Becomes v (with_holds (unpack w) (set (unpack w).holds k (hold_of h))) → Becomes v (with_holds (unpack w) (put free_hold (hold_of h) (unpack w).holds))
  hold_added e b =
      record { stands = b.stands; tables = b.tables ∙ ap (with_holds (unpack w)) (sym (put_found free_hold (unpack w).holds (hold_of h) e)) }

  pub no_row_free : Stands w → None ≡ first_row free_hold (unpack w).holds → Becomes w (with_holds (unpack w) (put free_hold (hold_of h) (unpack w).holds))
  no_row_free s e = record { stands = s; tables = ap (with_holds (unpack w)) (sym (put_missing free_hold (unpack w).holds (hold_of h) e)) }

-- the rows of a list that are left to add, from row i on
abbrev pub adding : List HoldRow → ℕ → Tables → Tables
adding rows i t = with_holds t (put_all free_hold (map hold_of (drop i rows)) t.holds)

-- they give what all of them give
abbrev pub LeftToAdd : List HoldRow → List ℕ → ℕ → List ℕ → Type 0
LeftToAdd rows w i v = Towards (adding rows) (with_holds (unpack w) (add_holds (map hold_of rows) (unpack w).holds)) i v

module _ (rows : List HoldRow) where
  pub add_begin : {w : List ℕ} → Stands w → LeftToAdd rows w 0 w
  unfolding add_holds
  add_begin s = begin (adding rows) s refl

  pub add_on : (i : ℕ) {t : Tables} {v u : List ℕ} (d : HoldRow) → i < length rows → Towards (adding rows) t i v
      → Becomes u (with_holds (unpack v) (put free_hold (hold_of (get_or rows i d)) (unpack v).holds)) → Towards (adding rows) t (i + 1) u
  unfolding put_all
  add_on i {v = v} d h a b =
      go_on (adding rows) i a b
      (ap (λ l. with_holds (unpack v) (put_all free_hold l (unpack v).holds)) (sym (ap (map hold_of) (rest_at d rows i h))))

  pub add_end : (i : ℕ) {t : Tables} {v : List ℕ} → length rows ≤ i → Towards (adding rows) t i v → Becomes v t
  unfolding put_all
  add_end i {v = v} h a =
      arrive (adding rows) i a (ap (λ l. with_holds (unpack v) (put_all free_hold (map hold_of l) (unpack v).holds)) (drop_of_length-le rows {i = i} h))
