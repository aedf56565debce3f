use Rattle.std.proofs.Common.{◌≡◌, ◌+◌, ◌++◌, take, false, vec_len, vec_capacity}
use Rattle.std.specs.List.{list_any}
use Rattle.table_core.specs.Written.{is_special}
use Rattle.table_core.proofs.plain.push_bytes.Given as goal

abbrev pub invariant-loop-byte : goal.invariant-loop-byte
invariant-loop-byte l = record {
  front : l.text.items ≡ l.initial.text.items ++ take l.byte-index l.bytes;
  plain : list_any is_special (take l.byte-index l.bytes) ≡ false;
  len : vec_len l.text ≡ vec_len l.initial.text + l.byte-index;
  room : vec_capacity l.text ≡ vec_capacity l.initial.text;
}
