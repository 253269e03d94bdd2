use Rattle.std.proofs.Common.{◌≡◌, ◌+◌, Some, drop, sym, ◌∙◌, ap}
use Rattle.std.proofs.lemmas.List.{take_rest}
use Rattle.bl_layout.specs.MemberNames.{bracket_count}
use Rattle.bl_layout.proofs.NameLemmas.{plain_found}
use Rattle.bl_layout.proofs.member_names.plain_shape.Goals as goal

pub returns : goal.returns
returns c =
    let name = c.args.name.now in
    let stars = c.star_count-stars.result in
    let n = c.word_len-identifier_len.result in
    let counted : Some c.in_ok-count.count ≡ bracket_count (drop (stars + n) name) = sym c.in_ok-count.was ∙ c.element_count.ensures ∙ ap bracket_count (take_rest name (stars + n)) in
    plain_found name stars n c.in_ok-count.count c.star_count-stars.ensures.len (rw (take_rest name stars) at c.word_len-identifier_len.ensures.len) c.if-identifier_len-eq0.false counted
