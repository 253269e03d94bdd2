use Rattle.std.proofs.Common.{◌≡◌, ◌∙◌}
use Rattle.std.proofs.lemmas.Result.{IfOk-weaker}
use Rattle.bl_addresses.specs.Marks.{marks_by}
use Rattle.bl_file.proofs.GroupLemmas.{marks-made}
use Rattle.bl_file.proofs.nodes.table_of.Goals as goal

pub returns : goal.returns
returns c =
    IfOk-weaker c.new.result (λ table. table ≡ marks_by c.deref.result.now c.deref-2.result.now c.args.ids.now) _
    (λ table made. marks-made c.args.nodes.now c.deref.result.now c.deref-2.result.now c.args.ids.now table
    (c.deref.ensures.value ∙ c.in_ok-groups.ensures.groups) (c.deref-2.ensures.value ∙ c.in_ok-addresses.ensures.addresses) made)
    c.new.ensures.marks
