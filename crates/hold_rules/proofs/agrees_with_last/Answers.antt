-- `hold_rules::agrees_with_last` meets its contract: the users of two end holds on one place. Assumes nothing.
use Prim.Native.Nat.{◌<◌}
use native.Mathlib.Omega.{arith}
use borrow.Author.Rules.{rules}
use Rattle.hold_rules.proofs.Ends.{ends_asked, ends_last, no_last, last_row, users_decide}
use Rattle.hold_rules.proofs.agrees_with_last.Goals as goal

pub last_in_chain-requires : goal.last_in_chain-requires
last_in_chain-requires c =
    let stands = c.requires.0.stands in
    let small : 1530 < 9223372036854775808 = omega arith in
    let inside = c.requires.1.0 in
    let bucket = c.requires.1.1.inside in
    (small, (bucket, ends_asked c.args.words.now c.args.row inside c.requires.1.1.chain (λ k l. search rules)))

pub hold_process-requires : goal.hold_process-requires
hold_process-requires c =
    let last = ends_last c.args.words.now c.args.row c.requires.1.0 c.requires.1.1.chain c.in-Some.ensures (λ k answer a. search rules) in
    (c.requires.0.stands, last_row c.args.words.now c.args.row last c.requires.1.0)

pub returns-in_default : goal.returns-in_default
returns-in_default c =
    no_last c.args.words.now c.args.row (ends_last c.args.words.now c.args.row c.requires.1.0 c.requires.1.1.chain c.in_default.ensures (λ k answer a. search rules))

pub returns : goal.returns
returns c =
    let last = ends_last c.args.words.now c.args.row c.requires.1.0 c.requires.1.1.chain c.in-Some.ensures (λ k answer a. search rules) in
    users_decide c.args.words.now c.args.row last c.hold_process.ensures c.user_in_index-user.ensures c.hold_process-2.ensures c.user_in_index.ensures
