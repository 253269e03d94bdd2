-- What a payload that holds a page says of its file. This project's own.
use Rattle.std.specs.Prelude.{ℕ, List, string_bytes}
use Rattle.bl_shelf.specs.declared.shelf.Shelf.{Ghosts}
use Rattle.bl_file.specs.declared.paged.PagedPayload.{PagedPayload}
use Rattle.bl_file.specs.Frames.{StaysAs}
use Rattle.bl_file.specs.Held.{IsHeldAnd}
use Rattle.bl_file.specs.Pages.{HavePage}

-- the name of the file that a payload is read of
abbrev pub page_name : PagedPayload → List ℕ
page_name p = string_bytes p.name

-- some bytes have the page that a payload holds
abbrev pub HavePageOf : PagedPayload → List ℕ → Type 0
HavePageOf p = HavePage p.size p.page_at p.filled p.page.items

-- the payload's file is held, and has the page that the payload holds
abbrev pub IsPaged : {S : Type 0} → Ghosts S → S → PagedPayload → Type 0
IsPaged g s p = IsHeldAnd (g.told s) (page_name p) (HavePageOf p)

-- a read leaves the shelf and the payload as before, and the page that is held then is one of the file
abbrev pub StaysPaged : {S : Type 0} → Ghosts S → S → S → PagedPayload → PagedPayload → Type 0
StaysPaged g = StaysAs g page_name (λ p. p.size) HavePageOf
