use Rattle.bl_sdna.proofs.text.catalogue_text.Goals as goal

pub structs_part-requires-clause-few_members : goal.structs_part-requires-clause-few_members
structs_part-requires-clause-few_members c = λ k d lt. (c.requires.structs k d lt).few_members
