-- Faults that checks give.
use Rattle.std.proofs.Common.{◌≡◌, ◌≢◌, ◌⊎◌, ◌<◌, ◌^◌, ℕ, inl, inr, List, length, Option, Some, Ok, refl, arith, get_or, Fits, w8}
use Rattle.std.proofs.lemmas.List.{get_or_default}
use Rattle.std.specs.Prelude.{All, option_map}
use Rattle.bl_num.specs.declared.number.Order.{Order}
use Rattle.bl_num.specs.declared.number.Width.{Width}
use Rattle.bl_format.specs.declared.catalogue.Catalogue.{Catalogue}
use Rattle.bl_format.specs.declared.layout.LayoutFault.{LayoutFault}
use Rattle.bl_format.specs.declared.layout.LayoutFault.TheVariants as layout
use Rattle.bl_format.specs.Layout.{layout_fault}
use Rattle.bl_format.specs.Schema.{catalogue_of, catalogue_written}
use Rattle.bl_format.proofs.CatalogueFits.{catalogue_of-PartsFit}
use Rattle.bl_shelf.specs.Told.{Told}
use Rattle.bl_file.specs.declared.fault.OpenFault.{OpenFault}
use Rattle.bl_file.specs.declared.fault.OpenFault.TheVariants as faults
use Rattle.bl_file.specs.Opening.{named_fault}
use Rattle.bl_file.specs.Held.{IsHeldAnd}
use Rattle.bl_file.specs.Reading.{IsFaultOf}
use Rattle.bl_file.specs.Steps.{IsGiven, NoFaultIn}
use Rattle.bl_file.proofs.HeldLemmas.{IsHeldAnd-weaker, IsFaultOf-both}

-- ---- a catalogue

-- bytes are below 256
below_256 : (p : List ℕ) → ((i : ℕ) → Fits w8 (get_or p i 0)) → All (λ y. y < 256) p
below_256 p fits = λ k d lt. let same = get_or_default p k d 0 lt in let byte = fits k in omega (arith, same, byte)

-- a catalogue that was read is written in no more bytes
pub written_short : (order : Order) (p : List ℕ) (c : Catalogue) → ((i : ℕ) → Fits w8 (get_or p i 0)) → catalogue_of order p ≡ Ok c → length p < 2 ^ 31 → length (catalogue_written order c) < 2 ^ 31
written_short order p c bytes reads short =
    let fits = catalogue_of-PartsFit order p c (below_256 p bytes) reads in
    let no_longer = fits.short in
    omega (arith, no_longer, short)

named_given : (c : Catalogue) (fault : LayoutFault) → IsGiven (Some (named_fault c fault)) (named_fault c fault)
unfolding named_fault
named_given c fault = refl

-- a layout's fault as it is named is the one that the check gives
pub layout_given : (c : Catalogue) (w : Width) (fault : LayoutFault) (named : OpenFault) → (fault ≡ layout.NoMemory) ⊎ (layout_fault c w ≡ Some fault)
    → (named ≡ faults.NoMemory) ⊎ ((fault ≢ layout.NoMemory) × (named ≡ named_fault c fault)) → IsGiven (option_map (named_fault c) (layout_fault c w)) named
layout_given c w fault named why (inl none) = rw none tt
layout_given c w fault named (inl memory) (inr is) = absurd (is.0 memory)
layout_given c w fault named (inr has) (inr is) = rw (has, is.1) (named_given c fault)

-- ---- what a given fault says

-- a fault that a check of the bytes gives is one of them
pub given_why : (told : Option Told) (name : List ℕ) (Such : List ℕ → Type 0) (Why : OpenFault → List ℕ → Type 0) (given : Option OpenFault) (fault : OpenFault)
    → IsHeldAnd told name Such → IsGiven given fault → ((b : List ℕ) → Such b → (f : OpenFault) → given ≡ Some f → Why f b) → IsFaultOf told name Why fault
given_why told name Such Why given faults.NoMemory held is so = tt
given_why told name Such Why given faults.Absent held is so = absurd is
given_why told name Such Why given faults.Device held is so = absurd is
given_why told name Such Why given (faults.TooLarge sum) held is so = IsHeldAnd-weaker told name Such (Why (faults.TooLarge sum)) held (λ b such. so b such (faults.TooLarge sum) is)
given_why told name Such Why given (faults.Head fault) held is so = IsHeldAnd-weaker told name Such (Why (faults.Head fault)) held (λ b such. so b such (faults.Head fault) is)
given_why told name Such Why given (faults.Block fault) held is so = IsHeldAnd-weaker told name Such (Why (faults.Block fault)) held (λ b such. so b such (faults.Block fault) is)
given_why told name Such Why given faults.NoCatalogue held is so = IsHeldAnd-weaker told name Such (Why faults.NoCatalogue) held (λ b such. so b such faults.NoCatalogue is)
given_why told name Such Why given (faults.TwoCatalogues at) held is so = IsHeldAnd-weaker told name Such (Why (faults.TwoCatalogues at)) held (λ b such. so b such (faults.TwoCatalogues at) is)
given_why told name Such Why given (faults.Sdna fault) held is so = IsHeldAnd-weaker told name Such (Why (faults.Sdna fault)) held (λ b such. so b such (faults.Sdna fault) is)
given_why told name Such Why given (faults.Layout fault owner member) held is so = IsHeldAnd-weaker told name Such (Why (faults.Layout fault owner member)) held (λ b such. so b such (faults.Layout fault owner member) is)
given_why told name Such Why given (faults.BadStruct at) held is so = IsHeldAnd-weaker told name Such (Why (faults.BadStruct at)) held (λ b such. so b such (faults.BadStruct at) is)
given_why told name Such Why given (faults.ShortBlock at) held is so = IsHeldAnd-weaker told name Such (Why (faults.ShortBlock at)) held (λ b such. so b such (faults.ShortBlock at) is)

-- a fault that the bytes don't give
pub no_why : (told : Option Told) (name : List ℕ) (Such : List ℕ → Type 0) (Why : OpenFault → List ℕ → Type 0) (fault : OpenFault) → IsHeldAnd told name Such → IsFaultOf told name NoFaultIn fault → IsFaultOf told name Why fault
no_why told name Such Why fault held is = IsFaultOf-both told name Such NoFaultIn Why fault held is (λ b such none. absurd none)
