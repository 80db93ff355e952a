-- `index::find_entry` meets its contract: the place's chain is gone down from its bucket's head. Assumes nothing.
use Prim.Native.Nat.{◌<◌}
use native.Mathlib.Omega.{arith}
use borrow.Author.Rules.{rules}
use Rattle.rows.specs.Blocks.{place_of}
use Rattle.index.specs.Indexed.{row_found}
use Rattle.index.proofs.Entries.{entry_asked, entry_last, found_last}
use Rattle.index.proofs.find_entry.Goals as goal

pub last_in_chain-requires : goal.last_in_chain-requires
last_in_chain-requires c =
    let pre = c.requires in
    let stands = pre.0.stands in
    let named = pre.1.0 in
    let bucket = c.bucket_of-bucket.ensures.1 in
    let small : 3066 < 9223372036854775808 = omega arith in
    (small, (bucket, entry_asked c.args.words.now pre.0.chained bucket (λ k l. search rules)))

pub returns : goal.returns
unfolding row_found
returns c =
    let args = c.args in
    let pre = c.requires in
    let bucket = c.bucket_of-bucket.ensures in
    let last =
    entry_last args.words.now pre.0.chained bucket.1 args.directory args.name pre.1.0 pre.1.1 bucket.0 c.last_in_chain.ensures
    (λ k answer a. search rules) in
    (last, found_last args.words.now (place_of args.directory args.name) last)
