-- What is owed of table texts: they and their meanings are one to one, and none is longer than the longest.
use Rattle.std.specs.Prelude.{◌≡◌, List, ◌↔◌, ℕ, ◌≤◌, length}
use Rattle.base.specs.Answer.{answer}
use Rattle.base.specs.Lengths.{longest_table}
use Rattle.table_text.specs.Text.{Table, read_table, Fine, table_text}

pub record OneToOne : Type 0 where
  -- a text reads as a table exactly if it is the table's text and the table is as document 02 asks,
  pub reads : (t : List ℕ) (m : Table) → (read_table t ≡ answer m) ↔ ((t ≡ table_text m) × Fine m)
  -- so that no two texts have one meaning
  pub one_text : (s t : List ℕ) (m : Table) → read_table s ≡ answer m → read_table t ≡ answer m → s ≡ t
  -- a buffer of so many bytes holds every table text
  pub longest : (t : List ℕ) (m : Table) → read_table t ≡ answer m → length t ≤ longest_table
