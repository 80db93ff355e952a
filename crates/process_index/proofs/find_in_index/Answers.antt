-- `process_index::find_in_index` meets its contract: the chain of the number's bucket is gone down. Assumes nothing.
use Prim.Native.Nat.{◌<◌}
use native.Mathlib.Omega.{arith}
use borrow.Author.Rules.{rules}
use Rattle.process_index.proofs.Processes.{number_asked, number_last}
use Rattle.process_index.proofs.find_in_index.Goals as goal

pub last_in_chain-requires : goal.last_in_chain-requires
last_in_chain-requires c =
    let stands = c.requires.0.stands in
    let small : 382 < 9223372036854775808 = omega arith in
    let bucket = c.bucket_of-bucket.ensures.1 in
    (small, (bucket, number_asked c.args.words.now c.requires.0.chained bucket (λ k l. search rules)))

pub returns : goal.returns
returns c =
    let bucket = c.bucket_of-bucket.ensures in
    number_last c.args.words.now c.requires.0.chained bucket.1 c.args.process c.requires.1 bucket.0 c.last_in_chain.ensures
    (λ k answer a. search rules)
