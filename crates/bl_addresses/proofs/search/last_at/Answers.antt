use Rattle.std.proofs.Common.{sym, ◌∙◌, ap}
use Rattle.bl_addresses.specs.Marks.{is_at}
use Rattle.bl_addresses.proofs.SearchLemmas.{no_end, end_at, none_found, last_found, last_not_found}
use Rattle.bl_addresses.proofs.search.last_at.Goals as goal

pub returns-in_err-last : goal.returns-in_err-last
returns-in_err-last c scope marks order =
    let none = no_end c.args.rows.now c.end_of-end.result c.end_of-end.ensures.bound c.in_err-last.ensures.item.3 in
    c.from_residual.ensures
    ∙ sym (none_found scope marks c.args.rows.now c.args.place c.end_of-end.result
    order c.end_of-end.ensures.split none)

pub returns-then-is_at : goal.returns-then-is_at
returns-then-is_at c scope marks order =
    let item = c.in_ok-last.ensures.item in
    let end = c.end_of-end.result in
    let last = c.in_ok-last.field-0.now in
    let at = end_at c.args.rows.now end last c.end_of-end.ensures.bound item.3.0 item.1 in
    let here = sym (ap (is_at c.args.place) c.place_of.ensures) ∙ sym c.is_at.ensures ∙ c.if-is_at.true in
    sym (last_found scope marks c.args.rows.now c.args.place end last
    order c.end_of-end.ensures.split at.0 c.end_of-end.ensures.bound at.1 here)

pub returns-else-is_at : goal.returns-else-is_at
returns-else-is_at c scope marks order =
    let item = c.in_ok-last.ensures.item in
    let end = c.end_of-end.result in
    let last = c.in_ok-last.field-0.now in
    let at = end_at c.args.rows.now end last c.end_of-end.ensures.bound item.3.0 item.1 in
    let apart = sym (ap (is_at c.args.place) c.place_of.ensures) ∙ sym c.is_at.ensures ∙ c.if-is_at.false in
    sym (last_not_found scope marks c.args.rows.now c.args.place end last
    order c.end_of-end.ensures.split at.0 c.end_of-end.ensures.bound at.1 apart)
