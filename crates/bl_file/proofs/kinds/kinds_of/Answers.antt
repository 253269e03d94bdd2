use Rattle.std.proofs.Common.{ap, subst, sym, ◌∙◌}
use Rattle.std.proofs.lemmas.Result.{IfOk-weaker}
use Rattle.bl_file.specs.Heard.{AreHeard}
use Rattle.bl_file.specs.Seen.{table_names}
use Rattle.bl_file.specs.Speakers.{basic_lengths, struct_speakers}
use Rattle.bl_file.proofs.ReadLemmas.{held_both}
use Rattle.bl_file.proofs.KindLaws.{kinds_of_own, kinds_by_table}
use Rattle.bl_file.proofs.SpeakerLemmas.{struct_speakers-heard}
use Rattle.bl_file.proofs.kinds.kinds_of.Goals as goal

pub kinds_in_groups-requires-clause-sight : goal.kinds_in_groups-requires-clause-sight
kinds_in_groups-requires-clause-sight g c =
    let of = c.args.layout.now in
    let has = c.catalogue.ensures.has_layout in
    let own = c.deref-2.ensures.value ∙ c.in_ok-speakers.ensures
    ∙ ap (struct_speakers of.catalogue of.width) (c.deref.ensures.value ∙ c.in_ok-basics.ensures ∙ ap basic_lengths c.catalogue.ensures.is) in
    record {
      width = c.requires.width;
      has_layout = has;
      nodes = c.requires.nodes;
      heard = subst (AreHeard of.catalogue) (sym own) (struct_speakers-heard of.catalogue of.width has);
    }

pub returns-clause-kinds : goal.returns-clause-kinds
returns-clause-kinds g c =
    let of = c.args.layout.now in
    let h = c.args.header.now in
    let nodes = c.args.nodes.now in
    let table = c.args.table.now in
    let has = c.catalogue.ensures.has_layout in
    let own = c.deref-2.ensures.value ∙ c.in_ok-speakers.ensures
    ∙ ap (struct_speakers of.catalogue of.width) (c.deref.ensures.value ∙ c.in_ok-basics.ensures ∙ ap basic_lengths c.catalogue.ensures.is) in
    IfOk-weaker c.kinds_in_groups.result _ _
    (λ kinds held. held_both (g.S.Shelf.told c.args.shelf.now) (g.P.Payload.file_name c.args.payload.now) _ (g.P.Payload.agrees c.args.payload.now) _ held c.requires.held
    (λ b are agreed. kinds_by_table h of.catalogue nodes table b kinds.items c.requires.table
    (kinds_of_own (table_names table) h of.catalogue of.width nodes c.deref-2.result.now b
    (g.P.Payload.file_size c.args.payload.now) kinds.items c.requires.width has c.requires.nodes own
    (g.met.P.Payload.agreed_size c.args.payload.now b agreed) are)))
    c.kinds_in_groups.ensures.kinds
