-- What a field test stands for.
use Rattle.codebook.specs.Fields.{Range}
use Rattle.codebook.specs.declared.fields.FieldTest.{FieldTest}

-- its length, its places and its numbers
abbrev pub range_of : FieldTest → Range
range_of t = record { long = t.len.places; from = t.first; count = t.count; least = t.low; most = t.high }
