-- How a shelf's answers and the checks of the bytes decide whether a file is opened.
use Rattle.std.proofs.Common.{◌≡◌, ◌≤◌, ◌<◌, ◌+◌, ℕ, List, length, Option, Some, None, option_map, Err, refl, sym, subst, ◌∙◌, arith}
use Rattle.std.specs.Prelude.{IfSome, IsSomeAnd, IsErrOf}
use Rattle.std.proofs.lemmas.Bool.{lt-ltb}
use Rattle.bl_format.specs.Limits.{most_input_bytes}
use Rattle.bl_shelf.specs.declared.shelf.ShelfFault.{ShelfFault}
use Rattle.bl_shelf.specs.declared.shelf.ShelfFault.TheVariants as shelf
use Rattle.bl_shelf.specs.Told.{Told, bytes_under}
use Rattle.bl_shelf.specs.Contents.{IsSizeOf}
use Rattle.bl_file.specs.declared.fault.OpenFault.{OpenFault}
use Rattle.bl_file.specs.declared.fault.OpenFault.TheVariants as faults
use Rattle.bl_file.specs.Held.{IsHeldAnd}
use Rattle.bl_file.specs.Opening.{format_fault, open_fault}
use Rattle.bl_file.specs.Outlines.{IsFirst}
use Rattle.bl_file.specs.Reading.{fault_of_shelf, IsFaultOf}
use Rattle.bl_file.specs.Steps.{IsFormatFault}
use Rattle.bl_file.proofs.Checks.{fits_checked}

-- what the file under a name is checked for
abbrev pub IsRefused : Option Told → List ℕ → ℕ → OpenFault → Type 0
IsRefused told name used fault = IfSome told (λ t. IsFirst (open_fault used (bytes_under name t)) fault)

absent_first : (used : ℕ) (held : Option (List ℕ)) → held ≡ None → open_fault used held ≡ Some faults.Absent
unfolding open_fault
absent_first used held is = rw is refl

-- a shelf's fault, where it misses the file only if it isn't held
shelf_first : (told : Option Told) (name : List ℕ) (used : ℕ) (fault : ShelfFault) → (IsErrOf {T = ℕ} (Err fault) shelf.Absent → IfSome told (λ t. bytes_under name t ≡ None)) → IsRefused told name used (fault_of_shelf fault)
shelf_first None name used fault missed = tt
shelf_first (Some t) name used shelf.Absent missed = absent_first used (bytes_under name t) (missed refl)
shelf_first (Some t) name used shelf.Failed missed = tt
shelf_first (Some t) name used shelf.NoMemory missed = tt

pub shelf_refuses : (told : Option Told) (name : List ℕ) (used : ℕ) (fault : ShelfFault) (open_as : OpenFault) → open_as ≡ fault_of_shelf fault → (IsErrOf {T = ℕ} (Err fault) shelf.Absent → IfSome told (λ t. bytes_under name t ≡ None)) → IsRefused told name used open_as
shelf_refuses told name used fault open_as is missed = subst (IsRefused told name used) (sym is) (shelf_first told name used fault missed)

large_first : (used size : ℕ) (held : Option (List ℕ)) → option_map length held ≡ Some size → most_input_bytes < used + size → open_fault used held ≡ Some (faults.TooLarge (used + size))
unfolding open_fault
large_first used size None is large = cc
large_first used size (Some b) is large =
    let same : length b ≡ size = cc in
    rw (same, lt-ltb most_input_bytes (used + size) large) refl

-- the bytes of all files are too many
pub large_refused : (told : Option Told) (name : List ℕ) (used size : ℕ) → IsSizeOf told name size → most_input_bytes < used + size → IsRefused told name used (faults.TooLarge (used + size))
large_refused None name used size is large = tt
large_refused (Some t) name used size is large = large_first used size (bytes_under name t) is large

first_is : (used size : ℕ) (o : Option (List ℕ)) (first : Option OpenFault) → used + size ≤ most_input_bytes → option_map length o ≡ Some size → IsSomeAnd o (λ b. format_fault b ≡ first) → open_fault used o ≡ first
first_is used size None first small is why = absurd why
first_is used size (Some b) first small is why =
    let len : length b ≡ size = cc in
    fits_checked used b (omega (arith, small, len)) ∙ why

-- the bytes pass all checks
pub format_passes : (told : Option Told) (name : List ℕ) (used size : ℕ) → used + size ≤ most_input_bytes → IsSizeOf told name size → IsHeldAnd told name (λ b. format_fault b ≡ None) → IfSome told (λ t. open_fault used (bytes_under name t) ≡ None)
format_passes None name used size small is passes = tt
format_passes (Some t) name used size small is passes = first_is used size (bytes_under name t) None small is passes

-- the bytes have a fault
pub format_refuses : (told : Option Told) (name : List ℕ) (used size : ℕ) (fault : OpenFault) → used + size ≤ most_input_bytes → IsSizeOf told name size → IsFaultOf told name IsFormatFault fault → IsRefused told name used fault
format_refuses None name used size fault small is why = tt
format_refuses (Some t) name used size faults.NoMemory small is why = tt
format_refuses (Some t) name used size faults.Device small is why = tt
format_refuses (Some t) name used size faults.Absent small is why = cc
format_refuses (Some t) name used size (faults.TooLarge sum) small is why = first_is used size (bytes_under name t) (Some (faults.TooLarge sum)) small is why
format_refuses (Some t) name used size (faults.Head fault) small is why = first_is used size (bytes_under name t) (Some (faults.Head fault)) small is why
format_refuses (Some t) name used size (faults.Block fault) small is why = first_is used size (bytes_under name t) (Some (faults.Block fault)) small is why
format_refuses (Some t) name used size faults.NoCatalogue small is why = first_is used size (bytes_under name t) (Some faults.NoCatalogue) small is why
format_refuses (Some t) name used size (faults.TwoCatalogues at) small is why = first_is used size (bytes_under name t) (Some (faults.TwoCatalogues at)) small is why
format_refuses (Some t) name used size (faults.Sdna fault) small is why = first_is used size (bytes_under name t) (Some (faults.Sdna fault)) small is why
format_refuses (Some t) name used size (faults.Layout fault owner member) small is why = first_is used size (bytes_under name t) (Some (faults.Layout fault owner member)) small is why
format_refuses (Some t) name used size (faults.BadStruct at) small is why = first_is used size (bytes_under name t) (Some (faults.BadStruct at)) small is why
format_refuses (Some t) name used size (faults.ShortBlock at) small is why = first_is used size (bytes_under name t) (Some (faults.ShortBlock at)) small is why
