-- Why a file isn't opened, by what its bytes read as. Where bytes have several faults the checks of Opening decide
-- which is told.
use Rattle.std.specs.Prelude.{◌≡◌, ◌<◌, ℕ, ◌+◌, List, length, Some}
use Rattle.bl_format.specs.declared.file.Header.{Header}
use Rattle.bl_format.specs.declared.file.Head.{Head}
use Rattle.bl_format.specs.declared.catalogue.Catalogue.{Catalogue}
use Rattle.bl_format.specs.declared.layout.LayoutFault.{LayoutFault}
use Rattle.bl_format.specs.Limits.{most_input_bytes}
use Rattle.bl_format.specs.Blocks.{HasBlockFault}
use Rattle.bl_format.specs.Layout.{layout_fault}
use Rattle.bl_format.specs.Nodes.{ReadsCatalogueAs, IsRefused, BadStruct as NoStruct, ShortBlock as TooShort}
use Rattle.bl_format.specs.Nodes.OpeningFault.{InHeader, NoCatalogue as CatalogueLack, TwoCatalogues as CatalogueExcess, InCatalogue, InNode}
use Rattle.bl_file.specs.declared.fault.OpenFault.{OpenFault}
use Rattle.bl_file.specs.declared.fault.OpenFault.TheVariants.{TooLarge, Head as HeadFault, Block as BlockFault, NoCatalogue, TwoCatalogues, Sdna as SdnaFault, Layout as InLayout, BadStruct, ShortBlock}
use Rattle.bl_file.specs.Opening.{named_fault}

-- the layout of the catalogue has this fault, which is told with the names of its struct and member
abbrev pub HasNamedFault : OpenFault → Header → List Head → Catalogue → Type 0
HasNamedFault told h blocks c = (fault : LayoutFault) × (layout_fault c h.width ≡ Some fault) × (told ≡ named_fault c fault)

-- what a fault says of the bytes, behind so many that were opened before
abbrev pub HasOpenFault : ℕ → List ℕ → OpenFault → Type 0
HasOpenFault used b (TooLarge sum) = (sum ≡ used + length b) × (most_input_bytes < sum)
HasOpenFault used b (HeadFault fault) = IsRefused b (InHeader fault)
HasOpenFault used b (BlockFault fault) = (h : Header) × HasBlockFault b h fault
HasOpenFault used b NoCatalogue = IsRefused b CatalogueLack
HasOpenFault used b (TwoCatalogues at) = IsRefused b (CatalogueExcess at)
HasOpenFault used b (SdnaFault fault) = IsRefused b (InCatalogue fault)
HasOpenFault used b (InLayout fault owner member) = ReadsCatalogueAs b (HasNamedFault (InLayout fault owner member))
HasOpenFault used b (BadStruct at) = IsRefused b (InNode (NoStruct at))
HasOpenFault used b (ShortBlock at) = IsRefused b (InNode (TooShort at))
HasOpenFault used b _ = ⊥
