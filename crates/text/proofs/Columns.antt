-- The spots of a set's columns, one after another.
use Rattle.std.proofs.Common.{◌≡◌, ℕ, ◌+◌, ◌<◌, List, [], ◌∷◌, ◌++◌, map, get_or, take, sym, ap, ◌∙◌, arith}
use Rattle.std.proofs.lemmas.List.FromFn.{map-range_with_len_more}
use Rattle.std.proofs.lemmas.List.{map_push, get_or-take}
use Rattle.std.specs.List.{range_with_len}
use Rattle.roster.specs.declared.entry.Column.{Column}
use Rattle.roster.specs.declared.entry.Entries.{Entries}
use Rattle.roster.specs.declared.entry.SetEntry.{SetEntry}
use Rattle.roster.specs.Rosters.{no_column, column_at}
use Rattle.text.specs.declared.spot.Spot.{Spot}
use Rattle.text.specs.Lines.{further}
use Rattle.text.specs.Printing.{spot_of, column_spot}

-- one more column, so many sectors on
pub columns_more : (E : Entries) (e : SetEntry) (skipped i : ℕ) (items : List Column) (column : Column) (zs all : List Spot) → i < e.width → items ≡ take e.width e.columns → column ≡ get_or items i no_column → zs ≡ map (further skipped) (map (column_spot E e) (range_with_len 0 i)) → all ≡ zs ++ spot_of E column.device (column.base + skipped) ∷ [] → all ≡ map (further skipped) (map (column_spot E e) (range_with_len 0 (i + 1)))
columns_more E e skipped i items column zs all less counted is held added =
    let here : column ≡ column_at e i = is ∙ ap (λ (xs : List Column). get_or xs i no_column) counted ∙ get_or-take e.width e.columns i no_column less in
    added
    ∙ (λ k. held k ++ (spot_of E (here k).device ((here k).base + skipped) ∷ []))
    ∙ sym (map_push (further skipped) (map (column_spot E e) (range_with_len 0 i)) (column_spot E e i))
    ∙ ap (map (further skipped)) (sym (map-range_with_len_more (column_spot E e) 0 i i (omega arith)))
