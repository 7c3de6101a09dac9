-- docs/RULES.md, "What comes back", as statements about the records of a run and the rows of its log: what theorems say of them. Assumes
-- nothing.
use Rattle.std.specs.Prelude.{◌≡◌, ◌↔◌, true, List, ℕ, ◌≤◌, length}
use Rattle.rules.specs.declared.Way.{Way}
use Rattle.rules.specs.declared.Record.{Record}
use Rattle.rules.specs.Lists.{In, count}
use Rattle.rules.specs.Records.{record_at, statuses_of, calls_of, ways_of, settled_by, by_model}
use Rattle.rules.specs.Run.{Row}
use Rattle.rules.specs.Answer.{log_of_rows}
use Rattle.rules.specs.Log.{forced_in}

-- of a record, after so many calls: call and way are 0 exactly while the variable is open; it is free exactly if compare or flip
-- settled it, and forced exactly if a chunk did
pub record Recorded (calls : ℕ) (r : Record) : Type 0 where
  pub open_call : (r.status ≡ 0) ↔ (r.call ≡ 0)
  pub open_way : (r.status ≡ 0) ↔ (r.way ≡ Way.Open)
  pub free_way : (r.status ≡ 1) ↔ (by_model r.way ≡ true)
  pub forced_way : (2 ≤ r.status) ↔ (r.way ≡ Way.Chunk)
  pub call_most : r.call ≤ calls

-- of a row, whatever it says: what it counts are the records with its call, by their ways. The chunk counts if the row says 2
pub record Counted (rs : List Record) (row : Row) : Type 0 where
  pub by_compare : row.by_compare ≡ count (settled_by row.call Way.Compare) rs
  pub by_flip : row.by_flip ≡ count (settled_by row.call Way.Flip) rs
  pub by_chunk : forced_in row ≡ count (settled_by row.call Way.Chunk) rs

-- of the buffers of a run that began so many calls: the first three show records, the last shows rows, and all of this holds of them
pub record RecordsIn (vars begun : ℕ) (status calls ways log : List ℕ) : Type 0 where
  pub records : List Record
  pub rows : List Row
  pub status_is : status ≡ statuses_of records
  pub calls_are : calls ≡ calls_of records
  pub ways_are : ways ≡ ways_of records
  pub log_is : log ≡ log_of_rows vars rows
  pub rows_many : length rows ≡ begun
  pub each : (i : ℕ) → Recorded begun (record_at records i)
  pub counts : (r : Row) → In r rows → Counted records r
