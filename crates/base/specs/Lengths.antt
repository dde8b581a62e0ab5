-- How many bytes the longest texts have. Each number is tied to the lines of its text by a law of that text's crate.
use Rattle.std.specs.Prelude.{ℕ}

-- a network text (law `longest-network`)
abbrev pub longest_network : ℕ
longest_network = 15883

-- a chain text (law `longest-chain`)
abbrev pub longest_chain : ℕ
longest_chain = 8897

-- a kept text (law `longest-kept`)
abbrev pub longest_kept : ℕ
longest_kept = 3619

-- a table text (law `longest-table`)
abbrev pub longest_table : ℕ
longest_table = 14863

-- a reasons text (law `longest-reasons`)
abbrev pub longest_reasons : ℕ
longest_reasons = 6656

-- a page (law `longest-page`)
abbrev pub longest_page : ℕ
longest_page = 18981
