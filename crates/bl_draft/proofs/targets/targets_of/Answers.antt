use Rattle.std.proofs.Common.{List, ℕ, length, map, ap, arith, refl, ◌∙◌}
use Rattle.bl_format.specs.declared.catalogue.Catalogue.{Catalogue}
use Rattle.bl_file.specs.Outlines.{ids_of}
use Rattle.bl_draft.specs.Targets.{Known}
use Rattle.bl_draft.specs.Numbers.{numbered_head}
use Rattle.bl_draft.proofs.SourceDrafts.{IsDraftOf-source}
use Rattle.bl_draft.proofs.OutlineFacts.{heads-few}
use Rattle.bl_draft.proofs.TargetsMade.{row-is, entries-marked, IsMadeOf, made-IsInRange, made-names}
use Rattle.bl_draft.proofs.targets.targets_of.Goals as goal

pub bounds-as_slice-0 : goal.bounds-as_slice-0
bounds-as_slice-0 c =
    let one = (IsDraftOf-source c.args.prepared.now.outline.now c.args.prepared.now.draft.now c.requires.draft).one_row in
    omega (arith, ap (λ (rows : List (List ℕ)). length rows) c.as_slice.ensures, one)

pub source_groups-requires : goal.source_groups-requires
source_groups-requires c =
    entries-marked c.args.prepared.now.outline.now c.args.prepared.now.draft.now c.as_slice-entries.result.now c.as_slice-entries.ensures
    c.requires.sound c.requires.draft

pub groups_of-requires : goal.groups_of-requires
groups_of-requires c = heads-few c.args.prepared.now.outline.now c.args.prepared.now.draft.now c.args.prepared.now.heads.now c.requires.draft c.requires.heads

pub invariant_of-result : goal.invariant_of-result
invariant_of-result c =
    let o = c.args.prepared.now.outline.now in
    let d = c.args.prepared.now.draft.now in
    let one = (IsDraftOf-source o d c.requires.draft).one_row in
    let k : Known = record {
      marks = o.table;
      images = c.as_slice-2.result.now;
      sources = c.in_ok-source_groups.field-0.items;
      groups = c.in_ok-groups_of.field-0.items;
      ids = c.in_ok-ids_of.field-0.items;
    } in
    let made : IsMadeOf o d k = record {
      heads = c.args.prepared.now.heads.now;
      es = c.as_slice-entries.result.now;
      numbers = c.deref.result.now;
      es_are = c.as_slice-entries.ensures;
      heads_are = c.requires.heads;
      numbers_are = c.deref.ensures.value ∙ c.requires.structs.numbers;
      marks = refl;
      images = row-is c.as_slice.result.now d.images c.index-as_slice-0.result c.as_slice-2.result.now c.as_slice.ensures one
          c.index-as_slice-0.is c.as_slice-2.ensures;
      sources = c.in_ok-source_groups.ensures;
      groups = c.in_ok-groups_of.ensures.groups;
      ids = c.in_ok-ids_of.ensures.ids
          ∙ ap (ids_of c.args.prepared.now.structs.now.layout.now.catalogue) (c.deref-2.ensures.value ∙ c.in_ok-numbered.ensures)
          ∙ ap (λ (to : Catalogue). ids_of to (map (numbered_head c.deref.result.now) c.args.prepared.now.heads.now)) c.requires.structs.catalogue;
    } in
    let range = made-IsInRange o d k c.requires.sound c.requires.draft made in
    (range.images, range.marks, range.sources, range.ids)

pub returns-clause-names : goal.returns-clause-names
returns-clause-names c =
    let o = c.args.prepared.now.outline.now in
    let d = c.args.prepared.now.draft.now in
    let one = (IsDraftOf-source o d c.requires.draft).one_row in
    let k : Known = record {
      marks = o.table;
      images = c.as_slice-2.result.now;
      sources = c.in_ok-source_groups.field-0.items;
      groups = c.in_ok-groups_of.field-0.items;
      ids = c.in_ok-ids_of.field-0.items;
    } in
    let made : IsMadeOf o d k = record {
      heads = c.args.prepared.now.heads.now;
      es = c.as_slice-entries.result.now;
      numbers = c.deref.result.now;
      es_are = c.as_slice-entries.ensures;
      heads_are = c.requires.heads;
      numbers_are = c.deref.ensures.value ∙ c.requires.structs.numbers;
      marks = refl;
      images = row-is c.as_slice.result.now d.images c.index-as_slice-0.result c.as_slice-2.result.now c.as_slice.ensures one
          c.index-as_slice-0.is c.as_slice-2.ensures;
      sources = c.in_ok-source_groups.ensures;
      groups = c.in_ok-groups_of.ensures.groups;
      ids = c.in_ok-ids_of.ensures.ids
          ∙ ap (ids_of c.args.prepared.now.structs.now.layout.now.catalogue) (c.deref-2.ensures.value ∙ c.in_ok-numbered.ensures)
          ∙ ap (λ (to : Catalogue). ids_of to (map (numbered_head c.deref.result.now) c.args.prepared.now.heads.now)) c.requires.structs.catalogue;
    } in
    made-names o d k c.requires.sound c.requires.draft made
