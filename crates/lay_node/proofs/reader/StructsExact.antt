-- Structs, unions and enumerations by themselves are read exactly where they stand.
use Rattle.lay_node.specs.nodes.Facts.{ToldFront, by_itself}
use Rattle.lay_node.specs.nodes.Heads.{about_enum, about_struct, about_union, headed}
use Rattle.lay_node.specs.reader.Exact.{Exact}
use Rattle.lay_node.specs.reader.Functions.{head_at}
use Rattle.lay_node.specs.reader.Heads.{enum, struct, union}
use Rattle.lay_node.specs.declared.heads.Enum.{Enum}
use Rattle.lay_node.specs.declared.heads.Struct.{Struct}
use Rattle.lay_node.specs.declared.heads.Union.{Union}
use Rattle.lay_node.proofs.reader.HeadsLevel.{head_exact}
use Rattle.lay_node.proofs.reader.StructsComplete.{enum_complete, struct_complete, union_complete}
use Rattle.lay_node.proofs.reader.StructsSound.{enum_sound, struct_sound, union_sound}

pub structs_exact : Exact (head_at (λ w ts. struct w.kinds ts)) (λ (x : Struct). ToldFront (by_itself (headed (about_struct x))))
structs_exact = head_exact (λ x. headed (about_struct x)) (λ w ts. struct w.kinds ts) struct_sound struct_complete

pub unions_exact : Exact (head_at (λ w ts. union w.kinds ts)) (λ (x : Union). ToldFront (by_itself (headed (about_union x))))
unions_exact = head_exact (λ x. headed (about_union x)) (λ w ts. union w.kinds ts) union_sound union_complete

pub enums_exact : Exact (head_at (λ w ts. enum w.kinds ts)) (λ (x : Enum). ToldFront (by_itself (headed (about_enum x))))
enums_exact = head_exact (λ x. headed (about_enum x)) (λ w ts. enum w.kinds ts) enum_sound enum_complete
