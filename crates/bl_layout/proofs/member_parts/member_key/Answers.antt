use Rattle.std.proofs.Common.{◌≡◌, List, ℕ, [], get_or, ap, ◌∙◌}
use Rattle.std.proofs.lemmas.List.{get_or_default}
use Rattle.bl_format.specs.declared.catalogue.MemberEntry.{MemberEntry}
use Rattle.bl_format.specs.Layout.{name_entry, name_of}
use Rattle.bl_layout.specs.MemberNames.{name_parts}
use Rattle.bl_layout.proofs.member_parts.member_key.Goals as goal

pub returns : goal.returns
unfolding name_of
returns c =
    let d = c.args.catalogue.now in
    let n = c.entry_of-entry.result.name_number in
    let name : c.as_slice-2.result.now ≡ name_entry d n =
    c.as_slice-2.ensures
    ∙ c.index-as_slice-entry.is
    ∙ ap (λ (xs : List (List ℕ)). get_or xs n c.index-as_slice-entry.result) c.as_slice.ensures
    ∙ get_or_default d.names n c.index-as_slice-entry.result [] c.entry_of-entry.ensures.fits.name_number in
    c.key_in.ensures
    ∙ ap (λ (x : List ℕ). (name_parts x).key) name
    ∙ ap (λ (e : MemberEntry). (name_parts (name_entry d e.name_number)).key) c.entry_of-entry.ensures.entry
