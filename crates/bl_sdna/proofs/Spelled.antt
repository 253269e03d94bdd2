-- What is read is spelled in the payload.
use Rattle.std.proofs.Common.{◌<◌, ℕ, List, get_or, Fits, w8, Result, Ok, Err, All, arith}
use Rattle.std.proofs.lemmas.List.{get_or_default}
use Rattle.std.specs.Prelude.{IfOk}
use Rattle.bl_num.specs.declared.number.Order.{Order}
use Rattle.bl_format.specs.declared.catalogue.Catalogue.{Catalogue}
use Rattle.bl_format.specs.declared.catalogue.SdnaFault.{SdnaFault}
use Rattle.bl_format.specs.Schema.{Gives, catalogue_of, IsPayload}
use Rattle.bl_format.proofs.CatalogueSpelled.{IsPayload-catalogue_of}

pub spelled : (order : Order) (p : List ℕ) (r : Result Catalogue SdnaFault)
    → All (λ b. b < 256) p → Gives (λ (c : Catalogue). c) r (catalogue_of order p) → IfOk r (λ c. IsPayload order c p)
spelled order p (Ok c) bytes read = IsPayload-catalogue_of order p c bytes read
spelled order p (Err e) bytes read = tt

-- what fits a byte is below 256
pub below_256 : (p : List ℕ) → ((i : ℕ) → Fits w8 (get_or p i 0)) → All (λ b. b < 256) p
below_256 p fits = λ k d lt. let same = get_or_default p k d 0 lt in let byte = fits k in omega (arith, same, byte)
