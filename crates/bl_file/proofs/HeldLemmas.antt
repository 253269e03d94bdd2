-- What a caller makes of what is held.
use Rattle.std.proofs.Common.{◌≡◌, ℕ, List, length, take, drop, Option, Some, None, option_map, subst}
use Rattle.std.specs.Prelude.{IfSome, IsSomeAnd}
use Rattle.bl_shelf.specs.Told.{Told, bytes_under}
use Rattle.bl_shelf.specs.Contents.{IsSizeOf, AreBytesAt}
use Rattle.bl_file.specs.declared.fault.OpenFault.{OpenFault}
use Rattle.bl_file.specs.declared.fault.OpenFault.TheVariants.{NoMemory, Absent, Device, TooLarge, Head, Block, NoCatalogue, TwoCatalogues, Sdna, Layout, BadStruct, ShortBlock}
use Rattle.bl_file.specs.Held.{IfHeld, ForHeld, IsHeldAnd}
use Rattle.bl_file.specs.Reading.{IsFaultOf, IsPartAt}

value_meets : (o : Option (List ℕ)) (Such : List ℕ → Type 0) → IsSomeAnd o Such → (x : List ℕ) → o ≡ Some x → Such x
value_meets (Some y) Such such x is =
    let same : y ≡ x = cc in
    subst Such same such
value_meets None Such none x is = absurd none

-- what is held and such meets a condition that what is held be such
pub IsHeldAnd-ForHeld : (told : Option Told) (name : List ℕ) (Such : List ℕ → Type 0) → IsHeldAnd told name Such → ForHeld told name Such
IsHeldAnd-ForHeld None name Such held = λ t is. absurd (cc)
IsHeldAnd-ForHeld (Some s) name Such held = λ t is bytes at.
    let same : s ≡ t = cc in
    value_meets (bytes_under name s) Such held bytes (rw same at)

value_also : (o : Option (List ℕ)) (Such Also : List ℕ → Type 0) → IsSomeAnd o Such → IfSome o Also → IsSomeAnd o Also
value_also (Some x) Such Also such also = also
value_also None Such Also none also = none

-- of what is held, all is so that is so where it is held
pub IsHeldAnd-also : (told : Option Told) (name : List ℕ) (Such Also : List ℕ → Type 0) → IsHeldAnd told name Such → IfHeld told name Also → IsHeldAnd told name Also
IsHeldAnd-also None name Such Also held also = tt
IsHeldAnd-also (Some s) name Such Also held also = value_also (bytes_under name s) Such Also held also

length_of : (o : Option (List ℕ)) (size : ℕ) → option_map length o ≡ Some size → IsSomeAnd o (λ bytes. length bytes ≡ size)
length_of (Some x) size is = cc
length_of None size is = absurd (cc)

-- a size that the shelf told is the length of what is held
pub IsSizeOf-IsHeldAnd : (told : Option Told) (name : List ℕ) (size : ℕ) → IsSizeOf told name size → IsHeldAnd told name (λ bytes. length bytes ≡ size)
IsSizeOf-IsHeldAnd None name size is = tt
IsSizeOf-IsHeldAnd (Some s) name size is = length_of (bytes_under name s) size is

value_weaker : (o : Option (List ℕ)) (Such Also : List ℕ → Type 0) → IsSomeAnd o Such → ((b : List ℕ) → Such b → Also b) → IsSomeAnd o Also
value_weaker (Some x) Such Also such so = so x such
value_weaker None Such Also none so = none

-- of what is held and such, all is so that follows
pub IsHeldAnd-weaker : (told : Option Told) (name : List ℕ) (Such Also : List ℕ → Type 0) → IsHeldAnd told name Such → ((b : List ℕ) → Such b → Also b) → IsHeldAnd told name Also
IsHeldAnd-weaker None name Such Also held so = tt
IsHeldAnd-weaker (Some s) name Such Also held so = value_weaker (bytes_under name s) Such Also held so

value_both : (o : Option (List ℕ)) (Such Too Also : List ℕ → Type 0) → IsSomeAnd o Such → IsSomeAnd o Too → ((b : List ℕ) → Such b → Too b → Also b) → IsSomeAnd o Also
value_both (Some x) Such Too Also such too so = so x such too
value_both None Such Too Also none too so = none

-- of what is held and such and so, all is so that follows from both
pub IsHeldAnd-both : (told : Option Told) (name : List ℕ) (Such Too Also : List ℕ → Type 0) → IsHeldAnd told name Such → IsHeldAnd told name Too
    → ((b : List ℕ) → Such b → Too b → Also b) → IsHeldAnd told name Also
IsHeldAnd-both None name Such Too Also such too so = tt
IsHeldAnd-both (Some s) name Such Too Also such too so = value_both (bytes_under name s) Such Too Also such too so

value_part : (o : Option (List ℕ)) (Such : List ℕ → Type 0) (size at : ℕ) (part : List ℕ) → option_map (λ bytes. take (length part) (drop at bytes)) o ≡ Some part
    → IsSomeAnd o Such → ((b : List ℕ) → Such b → length b ≡ size) → IsSomeAnd o (IsPartAt size at part)
value_part (Some x) Such size at part is such len = record { whole = len x such; bytes = cc }
value_part None Such size at part is none len = none

-- what a payload copied of the bytes that it agrees with
pub AreBytesAt-IsPartAt : (told : Option Told) (name : List ℕ) (Such : List ℕ → Type 0) (size at : ℕ) (part : List ℕ) → AreBytesAt told name at part
    → IsHeldAnd told name Such → ((b : List ℕ) → Such b → length b ≡ size) → IsHeldAnd told name (IsPartAt size at part)
AreBytesAt-IsPartAt None name Such size at part are held len = tt
AreBytesAt-IsPartAt (Some s) name Such size at part are held len = value_part (bytes_under name s) Such size at part are held len

-- a fault of what is held is one for each reason that follows
pub IsFaultOf-both : (told : Option Told) (name : List ℕ) (Such : List ℕ → Type 0) (Why Also : OpenFault → List ℕ → Type 0) (fault : OpenFault)
    → IsHeldAnd told name Such → IsFaultOf told name Why fault → ((b : List ℕ) → Such b → Why fault b → Also fault b) → IsFaultOf told name Also fault
IsFaultOf-both told name Such Why Also NoMemory held is so = tt
IsFaultOf-both told name Such Why Also Device held is so = tt
IsFaultOf-both told name Such Why Also Absent held is so = is
IsFaultOf-both told name Such Why Also (TooLarge sum) held is so = IsHeldAnd-both told name Such (Why (TooLarge sum)) (Also (TooLarge sum)) held is so
IsFaultOf-both told name Such Why Also (Head fault) held is so = IsHeldAnd-both told name Such (Why (Head fault)) (Also (Head fault)) held is so
IsFaultOf-both told name Such Why Also (Block fault) held is so = IsHeldAnd-both told name Such (Why (Block fault)) (Also (Block fault)) held is so
IsFaultOf-both told name Such Why Also NoCatalogue held is so = IsHeldAnd-both told name Such (Why NoCatalogue) (Also NoCatalogue) held is so
IsFaultOf-both told name Such Why Also (TwoCatalogues at) held is so = IsHeldAnd-both told name Such (Why (TwoCatalogues at)) (Also (TwoCatalogues at)) held is so
IsFaultOf-both told name Such Why Also (Sdna fault) held is so = IsHeldAnd-both told name Such (Why (Sdna fault)) (Also (Sdna fault)) held is so
IsFaultOf-both told name Such Why Also (Layout fault owner member) held is so = IsHeldAnd-both told name Such (Why (Layout fault owner member)) (Also (Layout fault owner member)) held is so
IsFaultOf-both told name Such Why Also (BadStruct at) held is so = IsHeldAnd-both told name Such (Why (BadStruct at)) (Also (BadStruct at)) held is so
IsFaultOf-both told name Such Why Also (ShortBlock at) held is so = IsHeldAnd-both told name Such (Why (ShortBlock at)) (Also (ShortBlock at)) held is so
