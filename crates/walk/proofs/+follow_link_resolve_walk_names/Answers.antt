-- Walking names, resolving one and following a link: each returns the model's walk of what is left. Assumes nothing.
use mathlib.Core.Path.{◌≡◌, sym, ap, subst, ◌∙◌}
use mathlib.Core.Bool.{Bool, true, false}
use mathlib.Core.Logic.{inl, inr, ◌⊎◌, ◌≢◌}
use mathlib.Core.List.{List, [], ◌∷◌}
use Prim.Native.Nat.{ℕ, ◌+◌, ◌-◌, ◌≤◌}
use native.Mathlib.Omega.{arith}
use borrow.Author.Tests.{eq-eqb, ne_eqb, eqb-true, eqb-false}
use lib.Dec.{eqb}
use lib.ListN.{length, get_or, take, drop}
use Rattle.std.proofs.Common.{Fits, w8}
use Rattle.std.proofs.lemmas.Result.{err_from_is_err_and}
use Rattle.std.specs.Prelude.{Option, Some, Result}
use Rattle.model.specs.Lists.{filled}
use Rattle.model.specs.Paths.{longest_target, valid_names}
use Rattle.model.specs.Sound.{sound_rows}
use Rattle.model.specs.Tables.{a_link, node_at}
use Rattle.model.specs.Words.{unpack}
use Rattle.rows.specs.Stands.{node_row}
use Rattle.rows.specs.Blocks.{name_of, block_of}
use Rattle.rows.specs.declared.Block.{Block}
use Rattle.rows.specs.declared.Target.{Target}
use Rattle.paths.specs.declared.Part.{Part}
use Rattle.paths.specs.Split.{next}
use Rattle.paths.proofs.Splits.{next_ends}
use Rattle.walk.specs.declared.Stretch.{Stretch}
use Rattle.walk.specs.declared.Trail.{Trail}
use Rattle.walk.specs.Trails.{followed, walked_from}
use Rattle.walk.proofs.Found.{sound_walkable}
use Rattle.walk.proofs.Steps.{TargetRead, link_in_range, target_read, started, no_link_left, ready_inside, follows_target}
use Rattle.walk.proofs.Steps.{in_no_directory, node_met, nothing_found, resolves_link, stops_at_entry}
use Rattle.walk.proofs.Steps.{NextName, next_name_met, block_names, Met, stops_by_slash, last_resolved, refused_whole, stopped_on_the_way, walks_on}
use Rattle.walk.proofs.+follow_link_resolve_walk_names.Goals as goal
use Rattle.walk.proofs.+follow_link_resolve_walk_names.Goals.{resolve-in_default-via-in-Some+then-follow+else-is_kind}
use Rattle.walk.proofs.+follow_link_resolve_walk_names.Goals.{resolve-in_default-via-in-Some+else-follow, resolve-in_default-via-in_default}

-- FOLLOWING A LINK

-- a link's target as it is read out of the node's row
known : (w : List ℕ) → sound_rows (unpack w) ≡ true → (node : ℕ) → (node_at (unpack w).nodes node).kind ≡ a_link → {found : Target} →
    found ≡ record { length = length (node_row w (node - 1)).target; bytes = filled longest_target (node_row w (node - 1)).target } →
    TargetRead w node found.length found.bytes
known w sound node link e = target_read w (sound_walkable w sound) node link _ _ (ap (λ (x : Target). x.length) e) (ap (λ (x : Target). x.bytes) e)

-- the bytes that are lent to the walk are there
short : {w : List ℕ} {node n : ℕ} {bytes : List ℕ} → TargetRead w node n bytes → n ≤ length bytes
short r = omega (arith, r.room, r.count, r.good.short)

pub follow_link-returns-then-trail-ge-LINKS : goal.follow_link-returns-then-trail-ge-LINKS
follow_link-returns-then-trail-ge-LINKS t c =
    no_link_left c.args.words.now c.args.trail (Some c.args.row) (node_at (unpack c.args.words.now).nodes c.args.node).target c.if-trail-ge-LINKS.true

pub follow_link-overflow_sub-from : goal.follow_link-overflow_sub-from
follow_link-overflow_sub-from t c =
    let range = link_in_range c.args.words.now (sound_walkable c.args.words.now c.requires.ready.sound) c.args.node c.requires.link in
    let z = range.0 in
    omega arith

pub follow_link-target_in-target-requires : goal.follow_link-target_in-target-requires
follow_link-target_in-target-requires t c =
    let range = link_in_range c.args.words.now (sound_walkable c.args.words.now c.requires.ready.sound) c.args.node c.requires.link in
    let z = range.0 in
    let h = range.1 in
    (c.requires.ready.indexed.stands, omega arith)

pub follow_link-shared_ref_as_front-names : goal.follow_link-shared_ref_as_front-names
follow_link-shared_ref_as_front-names t c =
    let r = known c.args.words.now c.requires.ready.sound c.args.node c.requires.link (rw c.from.ensures at c.target_in-target.ensures) in
    omega (arith, short r, r.room)

pub follow_link-walk_names-requires : goal.follow_link-walk_names-requires
follow_link-walk_names-requires t c =
    let w = c.args.words.now in
    let target = (node_at (unpack w).nodes c.args.node).target in
    let r = known w c.requires.ready.sound c.args.node c.requires.link (rw c.from.ensures at c.target_in-target.ensures) in
    let from = started c.args.trail.node target _ _ r.first c.start_of-start.ensures in
    let less = c.decreases in
    let added = c.through_link-onward.ensures in (
      omega (arith, ap (λ (u : Trail). u.count) added),
      (
        rw added (ready_inside w c.args.trail (Some c.args.row) target from c.requires.ready c.if-trail-ge-LINKS.false),
        subst (λ (l : List ℕ). valid_names l ≡ true) (sym r.whole) r.good.names_valid,
      ),
    )

pub follow_link-returns : goal.follow_link-returns
follow_link-returns t c =
    let w = c.args.words.now in
    let target = (node_at (unpack w).nodes c.args.node).target in
    let r = known w c.requires.ready.sound c.args.node c.requires.link (rw c.from.ensures at c.target_in-target.ensures) in
    let from = started c.args.trail.node target _ _ r.first c.start_of-start.ensures in
    follows_target w c.args.trail (Some c.args.row) target c.if-trail-ge-LINKS.false c.through_link-onward.ensures from r.whole c.walk_names.ensures

-- RESOLVING A NAME

pub resolve-find_entry-found-requires : goal.resolve-find_entry-found-requires
resolve-find_entry-found-requires t c =
    let ready = c.requires.ready in
    (ready.indexed, (c.requires.named, in_no_directory ready))

pub resolve-returns-in-Some : goal.resolve-returns-in-Some
resolve-returns-in-Some t c =
    let w = c.args.words.now in
    let met = node_met c.requires.ready c.args.name c.find_entry-found.ensures.0 c.node_found-node.ensures in
    resolves_link w (sound_walkable w c.requires.ready.sound) c.args.trail c.args.name c.node_found-node.result met c.args.follow
    (Some c.in-Some.row) c.in-Some.ensures.0 c.if-follow.true (eqb-true _ 3 (sym c.is_kind.ensures ∙ c.if-is_kind.true)) c.follow_link.ensures

pub resolve-returns-in_default : goal.resolve-returns-in_default
resolve-returns-in_default t c =
    let w = c.args.words.now in
    let node = c.node_found-node.result in
    let met = node_met c.requires.ready c.args.name c.find_entry-found.ensures.0 c.node_found-node.ensures in
    let stays : ((node_at (unpack w).nodes node).kind ≢ a_link) ⊎ (c.args.follow ≡ false) =
    elim c.in_default.branch [
      | resolve-in_default-via-in-Some+then-follow+else-is_kind v ↦ inl (eqb-false _ 3 (sym v.is_kind.ensures ∙ v.if-is_kind.false))
      | resolve-in_default-via-in-Some+else-follow v ↦ inr v.if-follow.false
      | resolve-in_default-via-in_default v ↦ inl (nothing_found w node c.node_found-node.ensures v.in_default.is)
    ] in
    stops_at_entry w (sound_walkable w c.requires.ready.sound) c.args.trail c.args.name node met c.args.follow c.requires.named stays

-- WALKING NAMES

-- what the loop knows of the name that comes next
named : {path : List ℕ} {at start size : ℕ} → ((i : ℕ) → Fits w8 (get_or path i 0)) → valid_names (drop at path) ≡ true → {r : Option Part} → r ≡ next path at →
    r ≡ Some (record { start = start; length = size }) → NextName path at start size
named bytes valid e is = next_name_met _ _ _ _ (λ i. (bytes i).fits) valid (sym e ∙ is)

-- and where it has resolved that name
resolved : {w path : List ℕ} {follow_last : Bool} {at : ℕ} {trail : Trail} {start size : ℕ} {met : Result Stretch ℕ} → NextName path at start size →
    {b : Block} → b ≡ block_of (take size (drop start path)) → {follow : Bool} → follow ≡ followed (eqb (start + size) (length path)) follow_last →
    met ≡ walked_from w follow trail (name_of b ∷ []) → Met w path follow_last at trail start size met
resolved n {b} made {follow} asked is = record { name = n; block = b; made = made; follow = follow; asked = asked; is = is }

pub walk_names-returns : goal.walk_names-returns
walk_names-returns t c = stops_by_slash c.loop-start.invariant (next_ends c.args.path.now c.loop-start.at (sym c.next_name.ensures ∙ c.in_default.is))

pub walk_names-block_from-name-requires : goal.walk_names-block_from-name-requires
walk_names-block_from-name-requires t c =
    let n = named c.type_inv.path c.loop-start.invariant.valid c.next_name.ensures c.in-Some.is in
    (n.inside, n.short)

pub walk_names-overflow_add-at : goal.walk_names-overflow_add-at
walk_names-overflow_add-at t c =
    let n = named c.type_inv.path c.loop-start.invariant.valid c.next_name.ensures c.in-Some.is in
    omega (arith, n.inside)

pub walk_names-resolve-requires : goal.walk_names-resolve-requires
walk_names-resolve-requires t c =
    let n = named c.type_inv.path c.loop-start.invariant.valid c.next_name.ensures c.in-Some.is in
    let less = c.decreases in
    let more = c.loop-start.invariant.more in
    (omega arith, (c.loop-start.invariant.ready, block_names c.args.path.now _ _ _ n _ c.block_from-name.ensures))

pub walk_names-returns-in_err-met : goal.walk_names-returns-in_err-met
walk_names-returns-in_err-met t c =
    let n = named c.type_inv.path c.loop-start.invariant.valid c.next_name.ensures c.in-Some.is in
    let met = resolved n c.block_from-name.ensures c.is_followed-follow.ensures c.in_err-met.ensures in
    let p = err_from_is_err_and c.from_residual.result c.from_residual.ensures.1 in
    rw (p.1, p.2) (refused_whole c.loop-start.invariant met)

pub walk_names-returns-then-is_last : goal.walk_names-returns-then-is_last
walk_names-returns-then-is_last t c =
    let n = named c.type_inv.path c.loop-start.invariant.valid c.next_name.ensures c.in-Some.is in
    let met = resolved n c.block_from-name.ensures c.is_followed-follow.ensures c.in_ok-met.ensures in
    last_resolved c.loop-start.invariant met (eq-eqb _ _ c.if-is_last.true)

pub walk_names-returns-in_err-only_directory : goal.walk_names-returns-in_err-only_directory
walk_names-returns-in_err-only_directory t c =
    let n = named c.type_inv.path c.loop-start.invariant.valid c.next_name.ensures c.in-Some.is in
    let met = resolved n c.block_from-name.ensures c.is_followed-follow.ensures c.in_ok-met.ensures in
    let p = err_from_is_err_and c.from_residual-in_err-only_directory.result c.from_residual-in_err-only_directory.ensures.1 in
    rw (p.1, p.2) (stopped_on_the_way c.loop-start.invariant met (ne_eqb _ _ c.if-is_last.false) (sym c.in_err-only_directory.ensures))

pub walk_names-loop-start-smaller : goal.walk_names-loop-start-smaller
walk_names-loop-start-smaller t c =
    let n = named c.type_inv.path c.loop-start.invariant.valid c.next_name.ensures c.in-Some.is in
    omega (arith, n.onward, n.inside)

pub walk_names-loop-start-preserved : goal.walk_names-loop-start-preserved
walk_names-loop-start-preserved t c =
    let n = named c.type_inv.path c.loop-start.invariant.valid c.next_name.ensures c.in-Some.is in
    let met = resolved n c.block_from-name.ensures c.is_followed-follow.ensures c.in_ok-met.ensures in
    walks_on c.loop-start.invariant met (ne_eqb _ _ c.if-is_last.false) (sym c.in_ok-only_directory.ensures)
