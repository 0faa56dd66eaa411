-- The ids of notes and of calls are ids, and are written as they are.
use Rattle.std.proofs.Common.{◌≡◌, ℕ, List, [], ◌++◌, ap, refl}
use Rattle.std.specs.Fmt.{decimal}
use Rattle.std.specs.List.{list_all}
use Rattle.std.specs.Prelude.{◌==◌, Bool, true, false, cond, codes}
use Rattle.mdhtml_document.specs.Notes.{call_id, note_id}
use Rattle.mdhtml_markup.specs.Addresses.{written_address}
use Rattle.mdhtml_markup.specs.Escapes.{escaped}
use Rattle.mdhtml_markup.specs.SafeHtml.{is_id, is_id_byte}
use Rattle.mdhtml_markup.proofs.Ids.{address-ids, all-ids, decimal-ids, escaped-ids}

-- a number behind a word
word-id : (word : List ℕ) (n : ℕ) → list_all is_id_byte word ≡ true → list_all is_id_byte (word ++ decimal n) ≡ true
word-id word n h = all-ids word (decimal n) h (decimal-ids n)

pub note-bytes : (n : ℕ) → list_all is_id_byte (note_id n) ≡ true
note-bytes n = word-id (codes "user-content-fn-") n refl

repeat-by : (one : Bool) (r : ℕ) → list_all is_id_byte (cond one [] (codes "-" ++ decimal r)) ≡ true
repeat-by true r = refl
repeat-by false r = word-id (codes "-") r refl

call-tail : (n r : ℕ) → list_all is_id_byte (decimal n ++ cond (r == 1) [] (codes "-" ++ decimal r)) ≡ true
call-tail n r = all-ids (decimal n) (cond (r == 1) [] (codes "-" ++ decimal r)) (decimal-ids n) (repeat-by (r == 1) r)

pub call-bytes : (n r : ℕ) → list_all is_id_byte (call_id n r) ≡ true
call-bytes n r = all-ids (codes "user-content-fnref-") (decimal n ++ cond (r == 1) [] (codes "-" ++ decimal r)) refl (call-tail n r)

-- they are ids
pub note-id : (n : ℕ) → is_id (note_id n) ≡ true
note-id n = word-id (codes "fn-") n refl

pub call-id : (n r : ℕ) → is_id (call_id n r) ≡ true
call-id n r = all-ids (codes "fnref-") (decimal n ++ cond (r == 1) [] (codes "-" ++ decimal r)) refl (call-tail n r)

-- and what is written of them
pub note-address : (n : ℕ) → written_address (codes "#" ++ note_id n) ≡ codes "#" ++ note_id n
note-address n = ap (λ (t : List ℕ). codes "#" ++ t) (address-ids (note_id n) (note-bytes n))

pub call-address : (n r : ℕ) → written_address (codes "#" ++ call_id n r) ≡ codes "#" ++ call_id n r
call-address n r = ap (λ (t : List ℕ). codes "#" ++ t) (address-ids (call_id n r) (call-bytes n r))

pub decimal-escaped : (n : ℕ) → escaped (decimal n) ≡ decimal n
decimal-escaped n = escaped-ids (decimal n) (decimal-ids n)
