use Rattle.std.proofs.Common.{ap, ◌∙◌}
use Rattle.bl_format.specs.Schema.{catalogue_of}
use Rattle.bl_format.proofs.CatalogueBack.{catalogue_of-catalogue_written}
use Rattle.bl_format.proofs.CatalogueRead.{IsCatalogue-can_be_read}
use Rattle.bl_sdna.proofs.write.write_catalogue.Goals as goal

pub catalogue_text-requires : goal.catalogue_text-requires
catalogue_text-requires c = IsCatalogue-can_be_read c.args.catalogue.now c.requires

pub returns-clause-reads_back : goal.returns-clause-reads_back
returns-clause-reads_back c = ap (catalogue_of c.args.order) c.in_ok-bytes.ensures ∙ catalogue_of-catalogue_written c.args.order c.args.catalogue.now (IsCatalogue-can_be_read c.args.catalogue.now c.requires)
