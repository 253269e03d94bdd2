use Rattle.std.proofs.Common.{◌≡◌, ◌+◌, None, Some, ap, ◌∙◌, sym, arith}
use Rattle.std.specs.String.{string_bytes}
use Rattle.bl_commands.specs.Commands.{keeper_word}
use Rattle.bl_words.proofs.KeeperLemmas.{keepers_from, keepers_next, keepers_none, keepers_all}
use Rattle.bl_words.proofs.words.keepers_of.Goals as goal

pub returns-in-None : goal.returns-in-None
returns-in-None c =
    let says : keeper_word (string_bytes c.word-item.result) ≡ None = cc (c.keeper_word.ensures, c.as_str.ensures.value, c.in-None.is) in
    sym (keepers_none c.args.words.now c.loop-word.word-index c.word-item.result c.loop-word.keepers.items
    c.loop-word-test.true c.word-item.is says)
    ∙ c.loop-word.invariant

pub loop-word-preserved : goal.loop-word-preserved
loop-word-preserved c =
    let says : keeper_word (string_bytes c.word-item.result) ≡ Some c.in-Some.keeper = cc (c.keeper_word.ensures, c.as_str.ensures.value, c.in-Some.is) in
    ap (λ done. keepers_from done c.args.words.now (c.loop-word.word-index + 1)) c.in_ok-push-in-Some.ensures.items
    ∙ sym (keepers_next c.args.words.now c.loop-word.word-index c.word-item.result c.loop-word.keepers.items c.in-Some.keeper
    c.loop-word-test.true c.word-item.is says)
    ∙ c.loop-word.invariant

pub returns : goal.returns
returns c =
    ap Some c.from_vec.ensures
    ∙ sym (keepers_all c.args.words.now c.loop-word.word-index c.loop-word.keepers.items (omega (arith, c.loop-word-test.false)))
    ∙ c.loop-word.invariant
