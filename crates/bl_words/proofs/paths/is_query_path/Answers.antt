use Rattle.std.proofs.Common.{◌≡◌, ◌+◌, ◌<◌, true, false, length, take, arith}
use Rattle.std.proofs.lemmas.List.{take_rest}
use Rattle.bl_commands.specs.Commands.{is_path, is_query_path}
use Rattle.bl_words.proofs.PathLemmas.{query_goes_on, query_ends}
use Rattle.bl_words.proofs.paths.is_query_path.Goals as goal

pub returns-then-is_path : goal.returns-then-is_path
returns-then-is_path c =
    let text = c.args.text.now in
    let n = c.dash_at-len.result in
    let lt : n < length text = omega (arith, c.dash_at-len.ensures.within, c.if-len-text.false) in
    let first : is_path (take n text) ≡ true = cc (c.is_path-else-len-text.ensures, c.if-is_path.true) in
    query_goes_on text n c.are_behind_dashes.result c.dash_at-len.ensures.len lt first (rw (take_rest text (n + 1)) at c.are_behind_dashes.ensures)

pub returns-else-is_path : goal.returns-else-is_path
returns-else-is_path c =
    let text = c.args.text.now in
    let n = c.dash_at-len.result in
    let lt : n < length text = omega (arith, c.dash_at-len.ensures.within, c.if-len-text.false) in
    let first : is_path (take n text) ≡ false = cc (c.is_path-else-len-text.ensures, c.if-is_path.false) in
    let ends : is_query_path text ≡ false = query_ends text n c.dash_at-len.ensures.len lt first in
    cc (ends, c.if-is_path.false)
