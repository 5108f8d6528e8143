-- How a run comes out: from what was read of its input to its status, and from its status back to the input's bytes.
use Rattle.std.proofs.Common.{◌≡◌, ◌<◌, ◌≤◌, ◌⊎◌, inl, inr, ℕ, List, [], length, Option, None, Some, Result, Ok, Err, refl, sym, ap, ◌∙◌, subst, IfSome, OnOk, arith}
use Rattle.lay_io.specs.Faults.{Rose}
use Rattle.lay_io.specs.Told.{TellsAs, GrewBy, GrewByPrefix}
use Rattle.lay_io.specs.declared.outside.Which.{Which}
use Rattle.lay_args.specs.declared.lines.Line.{Line}
use Rattle.lay_args.specs.declared.lines.Line.TheVariants as line
use Rattle.lay_text.specs.declared.refusal.Refusal.{Refusal}
use Rattle.lay_code.specs.Out.{out}
use Rattle.lay_code.specs.Reading.{Reads, IsRefused, top}
use Rattle.lay_code.specs.declared.file.File.{File}
use Rattle.lay_reparse.proofs.file.OneAnswer.{one_refusal, never_both}
use Rattle.lay_front.proofs.OutcomeLemmas.{wrote, told_as, complete_refused}
use Rattle.lay_map_lines.specs.Maps.{IsMap, WroteMap, WroteMapPart}
use Rattle.lay_map_lines.proofs.MapLemmas.{one_map}
use Rattle.lay_sample.specs.Sample.{sample_text}
use Rattle.lay_front.specs.Inputs.{InputAs, IsPlaced, input_of}
use Rattle.lay_front.specs.Messages.{RefusedIn, Says, line_of_end, message, refusal_line}
use Rattle.lay_front.specs.Outcome.{CheckRun, FormatRun, LineRun, MapRun, Mapped, MappedInPart, SampleRun, WasRead, Wrote, WrotePart, IsItsText, IsNotItsText}
use Rattle.lay_front.specs.Stops.{status_of}
use Rattle.lay_front.specs.declared.command.Status.{Status}
use Rattle.lay_front.specs.declared.command.Status.TheVariants.{Done, Differs, Usage, ReadFailed, Refused, WriteFailed, TooLong, NoMemory}
use Rattle.lay_front.specs.declared.stop.Stop.{Stop}
use Rattle.lay_front.specs.declared.stop.Stop.TheVariants as stop
use Rattle.lay_token.specs.declared.place.Place2.{Place2}

-- ---- from what was read to the status

was_read : {before now : Option (List ℕ)} {P Q : List ℕ → Type 0} → ((bytes : List ℕ) → P bytes → Q bytes)
    → WasRead before now P → WasRead before now Q
was_read f h = record { bytes = h.bytes; all = h.all; at_end = h.at_end; within = h.within; holds = f h.bytes h.holds }

module _ (before now : Option (List ℕ)) (f g : ℕ) (given : List ℕ × File) (h : InputAs before now f g (Ok given)) where
  pub read_wrote : (b n : Option (List ℕ)) → GrewBy b n (out given.1) → WasRead before now (λ bytes. Wrote bytes b n)
  read_wrote b n grew = was_read (λ bytes r. wrote bytes b n given.1 r.1 grew) h

  pub read_wrote_part : (b n : Option (List ℕ)) → GrewByPrefix b n (out given.1) → WasRead before now (λ bytes. WrotePart bytes b n)
  read_wrote_part b n grew = was_read (λ bytes r. record { file = given.1; reads = r.1; grew = grew }) h

  pub read_mapped : (b n : Option (List ℕ)) → ((bytes : List ℕ) → bytes ≡ given.0 → WroteMap bytes given.1 b n) → WasRead before now (λ bytes. Mapped bytes b n)
  read_mapped b n wrote = was_read (λ bytes r. record { file = given.1; reads = r.1; wrote = wrote bytes (sym r.0) }) h

  pub read_mapped_part : (b n : Option (List ℕ)) → ((bytes : List ℕ) → bytes ≡ given.0 → WroteMapPart bytes given.1 b n)
      → WasRead before now (λ bytes. MappedInPart bytes b n)
  read_mapped_part b n wrote = was_read (λ bytes r. record { file = given.1; reads = r.1; wrote = wrote bytes (sym r.0) }) h

  pub read_same : given.0 ≡ out given.1 → WasRead before now IsItsText
  read_same e = was_read (λ bytes r. record { file = given.1; reads = r.1; same = sym r.0 ∙ e }) h

  pub read_other : (given.0 ≡ out given.1 → ⊥) → WasRead before now IsNotItsText
  read_other differ = was_read (λ bytes r. record { file = given.1; reads = r.1; other = λ e. differ (r.0 ∙ e) }) h

-- A run that stops before its input is read to a file.
module _ {K I : Type 0} (written : K → Option (List ℕ)) (writes : K → ℕ) (left : I → Which → Option (List ℕ)) (reads : I → ℕ)
    (which : Which) (i j : I) (k : K) where
  pub stopped_format : (s : Stop) → InputAs (left i which) (left j which) (reads i) (reads j) (Err s)
      → FormatRun written writes left reads which i j k k (status_of (Err s))
  stopped_format stop.Usage h = absurd h
  stopped_format stop.ReadFailed h = (h, refl)
  stopped_format stop.TooLong h = (h, refl)
  stopped_format (stop.Refused refusal place) h = (was_read (λ bytes r. r.0) h, refl)
  stopped_format stop.WriteFailed h = absurd h
  stopped_format stop.Differs h = absurd h
  stopped_format stop.NoMemory h = inl refl

  pub stopped_map : (s : Stop) → InputAs (left i which) (left j which) (reads i) (reads j) (Err s)
      → MapRun written writes left reads which i j k k (status_of (Err s))
  stopped_map stop.Usage h = absurd h
  stopped_map stop.ReadFailed h = (h, refl)
  stopped_map stop.TooLong h = (h, refl)
  stopped_map (stop.Refused refusal place) h = (was_read (λ bytes r. r.0) h, refl)
  stopped_map stop.WriteFailed h = absurd h
  stopped_map stop.Differs h = absurd h
  stopped_map stop.NoMemory h = inl refl

  pub stopped_check : (s : Stop) → InputAs (left i which) (left j which) (reads i) (reads j) (Err s)
      → CheckRun left reads which i j (status_of (Err s))
  stopped_check stop.Usage h = absurd h
  stopped_check stop.ReadFailed h = h
  stopped_check stop.TooLong h = h
  stopped_check (stop.Refused refusal place) h = was_read (λ bytes r. r.0) h
  stopped_check stop.WriteFailed h = absurd h
  stopped_check stop.Differs h = absurd h
  stopped_check stop.NoMemory h = tt

pub stopped_placed : (before now : Option (List ℕ)) (f g : ℕ) (s : Stop) → InputAs before now f g (Err s) → IsPlaced before (Err s)
stopped_placed before now f g stop.Usage h = tt
stopped_placed before now f g stop.ReadFailed h = tt
stopped_placed before now f g stop.TooLong h = tt
stopped_placed before now f g (stop.Refused refusal place) h = (h.bytes, h.all, h.holds.0, h.holds.1)
stopped_placed before now f g stop.WriteFailed h = tt
stopped_placed before now f g stop.Differs h = tt
stopped_placed before now f g stop.NoMemory h = tt

-- A run whose words find no memory.
pub no_words : {K I : Type 0} (written : K → Option (List ℕ)) (writes : K → ℕ) (left : I → Which → Option (List ℕ)) (reads : I → ℕ)
    (l : Line) (i : I) (k : K) → LineRun written writes left reads l i i k k NoMemory
no_words written writes left reads line.Usage i k = (refl, refl, inr refl)
no_words written writes left reads (line.Format which) i k = inl refl
no_words written writes left reads (line.Check which) i k = (tt, refl)
no_words written writes left reads (line.Map which) i k = inl refl
no_words written writes left reads (line.Sample seed items) i k = (refl, refl)

-- ---- the line on `err`

tells_some : (told : Option (List ℕ)) → (bytes : List ℕ) × TellsAs told bytes
tells_some None = ([], tt)
tells_some (Some all) = (all, refl)

module _ (told before now : Option (List ℕ)) (f g : ℕ) where
  says_any : (status : Status) → ((bytes : List ℕ) → message bytes status ≡ message [] status)
      → ((bytes : List ℕ) → RefusedIn bytes status) → GrewByPrefix before now (message [] status)
      → ((Rose f g → ⊥) → GrewBy before now (message [] status)) → Says told status before now f g
  says_any status same refused part whole = record {
    bytes = (tells_some told).0;
    given = (tells_some told).1;
    refused = refused (tells_some told).0;
    part = subst (λ (m : List ℕ). GrewByPrefix before now m) (sym (same (tells_some told).0)) part;
    whole = λ none. subst (λ (m : List ℕ). GrewBy before now m) (sym (same (tells_some told).0)) (whole none);
  }

  pub says : (ended : Result (Unit {0}) Stop) → IsPlaced told ended → GrewByPrefix before now (line_of_end ended)
      → ((Rose f g → ⊥) → GrewBy before now (line_of_end ended)) → Says told (status_of ended) before now f g
  says (Ok done) p part whole = says_any Done (λ bytes. refl) (λ bytes. tt) part whole
  says (Err stop.Usage) p part whole = says_any Usage (λ bytes. refl) (λ bytes. tt) part whole
  says (Err stop.ReadFailed) p part whole = says_any ReadFailed (λ bytes. refl) (λ bytes. tt) part whole
  says (Err stop.TooLong) p part whole = says_any TooLong (λ bytes. refl) (λ bytes. tt) part whole
  says (Err (stop.Refused refusal place)) p part whole = record {
    bytes = p.0;
    given = p.1;
    refused = p.2;
    part = subst (λ (at : Place2). GrewByPrefix before now (refusal_line refusal at)) p.3 part;
    whole = λ none. subst (λ (at : Place2). GrewBy before now (refusal_line refusal at)) p.3 (whole none);
  }
  says (Err stop.WriteFailed) p part whole = says_any WriteFailed (λ bytes. refl) (λ bytes. tt) part whole
  says (Err stop.Differs) p part whole = says_any Differs (λ bytes. refl) (λ bytes. tt) part whole
  says (Err stop.NoMemory) p part whole = says_any NoMemory (λ bytes. refl) (λ bytes. tt) part whole

-- ---- from the bytes to the status

module _ {I : Type 0} (left : I → Which → Option (List ℕ)) (reads : I → ℕ) (which : Which) (i j : I) (bytes : List ℕ)
    (no_read : Rose (reads i) (reads j) → ⊥) (given : left i which ≡ Some bytes) where
  short : length bytes ≤ 16777216 → IfSome (left i which) (λ all. 16777216 < length all) → ⊥
  short within h =
      let long : 16777216 < length bytes = subst (λ (t : Option (List ℕ)). IfSome t (λ all. 16777216 < length all)) given h in omega arith

  long : {now : Option (List ℕ)} {P : List ℕ → Type 0} → 16777216 < length bytes → WasRead (left i which) now P → ⊥
  long above h =
      let same : length bytes ≡ length h.bytes = ap (λ (b : List ℕ). length b) (told_as _ bytes h.bytes given h.all) in
      let within : length h.bytes ≤ 16777216 = h.within in omega arith

  is_refused : {now : Option (List ℕ)} {P : List ℕ → Type 0} (h : WasRead (left i which) now P) (refusal : Refusal) → IsRefused bytes refusal
      → IsRefused h.bytes refusal
  is_refused h refusal k = subst (λ (b : List ℕ). IsRefused b refusal) (told_as _ bytes h.bytes given h.all) k

  does_read : {now : Option (List ℕ)} {P : List ℕ → Type 0} (h : WasRead (left i which) now P) (file : File) → Reads bytes file
      → Reads h.bytes file
  does_read h file k = subst (λ (b : List ℕ). Reads b file) (told_as _ bytes h.bytes given h.all) k

  pub check_done : (status : Status) (file : File) → CheckRun left reads which i j status → length bytes ≤ 16777216
      → Reads bytes file → bytes ≡ out file → (status ≡ Done) ⊎ (status ≡ NoMemory)
  check_done Done file h within r e = inl refl
  check_done Differs file h within r e =
      let same : h.bytes ≡ out h.holds.file =
      sym (told_as _ bytes h.bytes given h.all) ∙ e ∙ ap out (h.holds.reads.only file (does_read h file r)) in
      absurd (h.holds.other same)
  check_done Usage file h within r e = absurd h
  check_done ReadFailed file h within r e = absurd (no_read h)
  check_done (Refused refusal) file h within r e = absurd (never_both h.bytes file refusal (does_read h file r) h.holds)
  check_done WriteFailed file h within r e = absurd h
  check_done TooLong file h within r e = absurd (short within h)
  check_done NoMemory file h within r e = inr refl

  pub check_differs : (status : Status) (file : File) → CheckRun left reads which i j status → length bytes ≤ 16777216
      → Reads bytes file → (bytes ≡ out file → ⊥) → (status ≡ Differs) ⊎ (status ≡ NoMemory)
  check_differs Done file h within r differ =
      let same : bytes ≡ out file =
      told_as _ bytes h.bytes given h.all ∙ h.holds.same ∙ ap out (sym (h.holds.reads.only file (does_read h file r))) in
      absurd (differ same)
  check_differs Differs file h within r differ = inl refl
  check_differs Usage file h within r differ = absurd h
  check_differs ReadFailed file h within r differ = absurd (no_read h)
  check_differs (Refused refusal) file h within r differ = absurd (never_both h.bytes file refusal (does_read h file r) h.holds)
  check_differs WriteFailed file h within r differ = absurd h
  check_differs TooLong file h within r differ = absurd (short within h)
  check_differs NoMemory file h within r differ = inr refl

  check_refused : (status : Status) (refusal : Refusal) → CheckRun left reads which i j status → length bytes ≤ 16777216
      → IsRefused bytes refusal → (status ≡ Refused refusal) ⊎ (status ≡ NoMemory)
  check_refused Done refusal h within k = absurd (never_both h.bytes h.holds.file refusal h.holds.reads.reads (is_refused h refusal k))
  check_refused Differs refusal h within k = absurd (never_both h.bytes h.holds.file refusal h.holds.reads.reads (is_refused h refusal k))
  check_refused Usage refusal h within k = absurd h
  check_refused ReadFailed refusal h within k = absurd (no_read h)
  check_refused (Refused other) refusal h within k = inl (ap Refused (one_refusal top h.bytes other refusal h.holds (is_refused h refusal k)))
  check_refused WriteFailed refusal h within k = absurd h
  check_refused TooLong refusal h within k = absurd (short within h)
  check_refused NoMemory refusal h within k = inr refl

  check_too_long : (status : Status) → CheckRun left reads which i j status → 16777216 < length bytes
      → (status ≡ TooLong) ⊎ (status ≡ NoMemory)
  check_too_long Done h above = absurd (long above h)
  check_too_long Differs h above = absurd (long above h)
  check_too_long Usage h above = absurd h
  check_too_long ReadFailed h above = absurd (no_read h)
  check_too_long (Refused refusal) h above = absurd (long above h)
  check_too_long WriteFailed h above = absurd h
  check_too_long TooLong h above = inl refl
  check_too_long NoMemory h above = inr refl

  module _ {K : Type 0} (written : K → Option (List ℕ)) (writes : K → ℕ) (k l : K) where
    pub map_done : (status : Status) (file : File) (lines : List ℕ) → MapRun written writes left reads which i j k l status
        → (Rose (writes k) (writes l) → ⊥) → length bytes ≤ 16777216 → IsMap bytes file lines
        → ((status ≡ Done) × GrewBy (written k) (written l) lines) ⊎ (status ≡ NoMemory)
    map_done Done file lines h no_write within m =
        let same : IsMap h.bytes file lines = subst (λ (b : List ℕ). IsMap b file lines) (told_as _ bytes h.bytes given h.all) m in
        let one : h.holds.wrote.lines ≡ lines = one_map h.bytes h.holds.file file h.holds.wrote.lines lines h.holds.wrote.is same in
        inl (refl, subst (λ (w : List ℕ). GrewBy (written k) (written l) w) one h.holds.wrote.grew)
    map_done Differs file lines h no_write within m = absurd h
    map_done Usage file lines h no_write within m = absurd h
    map_done ReadFailed file lines h no_write within m = absurd (no_read h.0)
    map_done (Refused refusal) file lines h no_write within m = absurd (never_both h.0.bytes file refusal (does_read h.0 file m.source) h.0.holds)
    map_done WriteFailed file lines h no_write within m = absurd (no_write h.0)
    map_done TooLong file lines h no_write within m = absurd (short within h.0)
    map_done NoMemory file lines h no_write within m = inr refl

    map_refused : (status : Status) (refusal : Refusal) → MapRun written writes left reads which i j k l status → length bytes ≤ 16777216
        → IsRefused bytes refusal → (status ≡ Refused refusal) ⊎ (status ≡ NoMemory)
    map_refused Done refusal h within r = absurd (never_both h.bytes h.holds.file refusal h.holds.reads.reads (is_refused h refusal r))
    map_refused Differs refusal h within r = absurd h
    map_refused Usage refusal h within r = absurd h
    map_refused ReadFailed refusal h within r = absurd (no_read h.0)
    map_refused (Refused other) refusal h within r =
        inl (ap Refused (one_refusal top h.0.bytes other refusal h.0.holds (is_refused h.0 refusal r)))
    map_refused WriteFailed refusal h within r =
        absurd (never_both h.1.bytes h.1.holds.file refusal h.1.holds.reads.reads (is_refused h.1 refusal r))
    map_refused TooLong refusal h within r = absurd (short within h.0)
    map_refused NoMemory refusal h within r = inr refl

    map_too_long : (status : Status) → MapRun written writes left reads which i j k l status → 16777216 < length bytes
        → (status ≡ TooLong) ⊎ (status ≡ NoMemory)
    map_too_long Done h above = absurd (long above h)
    map_too_long Differs h above = absurd h
    map_too_long Usage h above = absurd h
    map_too_long ReadFailed h above = absurd (no_read h.0)
    map_too_long (Refused refusal) h above = absurd (long above h.0)
    map_too_long WriteFailed h above = absurd (long above h.1)
    map_too_long TooLong h above = inl refl
    map_too_long NoMemory h above = inr refl

    format_too_long : (status : Status) → FormatRun written writes left reads which i j k l status → 16777216 < length bytes
        → (status ≡ TooLong) ⊎ (status ≡ NoMemory)
    format_too_long Done h above = absurd (long above h)
    format_too_long Differs h above = absurd h
    format_too_long Usage h above = absurd h
    format_too_long ReadFailed h above = absurd (no_read h.0)
    format_too_long (Refused refusal) h above = absurd (long above h.0)
    format_too_long WriteFailed h above = absurd (long above h.1)
    format_too_long TooLong h above = inl refl
    format_too_long NoMemory h above = inr refl

    named : {w v : Which} → Some w ≡ Some v → w ≡ v
    named e = cc

    -- a line that names the input formats it or checks it
    pub line_refused : (name : Line) (status : Status) (refusal : Refusal) → LineRun written writes left reads name i j k l status
        → input_of name ≡ Some which → length bytes ≤ 16777216 → IsRefused bytes refusal → (status ≡ Refused refusal) ⊎ (status ≡ NoMemory)
    line_refused line.Usage status refusal h e within r = let no : ⊥ = cc in absurd no
    line_refused (line.Format w) status refusal h e within r =
        let run : FormatRun written writes left reads which i j k l status =
        subst (λ (v : Which). FormatRun written writes left reads v i j k l status) (named e) h in
        complete_refused written writes left reads which i j k l bytes status refusal run no_read given within r
    line_refused (line.Map w) status refusal h e within r =
        let run : MapRun written writes left reads which i j k l status =
        subst (λ (v : Which). MapRun written writes left reads v i j k l status) (named e) h in
        map_refused status refusal run within r
    line_refused (line.Sample seed items) status refusal h e within r = let no : ⊥ = cc in absurd no
    line_refused (line.Check w) status refusal h e within r =
        let run : CheckRun left reads which i j status = subst (λ (v : Which). CheckRun left reads v i j status) (named e) h.0 in
        check_refused status refusal run within r

    pub line_too_long : (name : Line) (status : Status) → LineRun written writes left reads name i j k l status
        → input_of name ≡ Some which → 16777216 < length bytes → (status ≡ TooLong) ⊎ (status ≡ NoMemory)
    line_too_long line.Usage status h e above = let no : ⊥ = cc in absurd no
    line_too_long (line.Format w) status h e above =
        format_too_long status (subst (λ (v : Which). FormatRun written writes left reads v i j k l status) (named e) h) above
    line_too_long (line.Map w) status h e above =
        map_too_long status (subst (λ (v : Which). MapRun written writes left reads v i j k l status) (named e) h) above
    line_too_long (line.Sample seed items) status h e above = let no : ⊥ = cc in absurd no
    line_too_long (line.Check w) status h e above =
        check_too_long status (subst (λ (v : Which). CheckRun left reads v i j status) (named e) h.0) above

-- ---- from the line to the status

module _ {K I : Type 0} (written : K → Option (List ℕ)) (writes : K → ℕ) (left : I → Which → Option (List ℕ)) (reads : I → ℕ)
    (i j : I) (k l : K) where
  pub line_usage : (name : Line) (status : Status) → LineRun written writes left reads name i j k l status → status ≡ Usage → name ≡ line.Usage
  line_usage line.Usage status h e = refl
  line_usage (line.Format which) status h e =
      let never : ⊥ = subst (λ (s : Status). FormatRun written writes left reads which i j k l s) e h in absurd never
  line_usage (line.Check which) status h e =
      let never : ⊥ = subst (λ (s : Status). CheckRun left reads which i j s) e h.0 in absurd never
  line_usage (line.Map which) status h e =
      let never : ⊥ = subst (λ (s : Status). MapRun written writes left reads which i j k l s) e h in absurd never
  line_usage (line.Sample seed items) status h e =
      let never : ⊥ =
      subst (λ (s : Status). SampleRun written writes items (sample_text seed items) k l s) e h.1 in absurd never

  pub line_unread : (name : Line) (status : Status) → LineRun written writes left reads name i j k l status → name ≡ line.Usage
      → (j ≡ i) × (l ≡ k) × ((status ≡ Usage) ⊎ (status ≡ NoMemory))
  line_unread name status h e = subst (λ (n : Line). LineRun written writes left reads n i j k l status) e h

  pub line_format : (name : Line) (status : Status) → LineRun written writes left reads name i j k l status → (which : Which)
      → name ≡ line.Format which → FormatRun written writes left reads which i j k l status
  line_format name status h which e = subst (λ (n : Line). LineRun written writes left reads n i j k l status) e h

  pub line_map : (name : Line) (status : Status) → LineRun written writes left reads name i j k l status → (which : Which)
      → name ≡ line.Map which → MapRun written writes left reads which i j k l status
  line_map name status h which e = subst (λ (n : Line). LineRun written writes left reads n i j k l status) e h

  pub line_check : (name : Line) (status : Status) → LineRun written writes left reads name i j k l status → (which : Which)
      → name ≡ line.Check which → CheckRun left reads which i j status × (l ≡ k)
  line_check name status h which e = subst (λ (n : Line). LineRun written writes left reads n i j k l status) e h

  pub line_sample : (name : Line) (status : Status) → LineRun written writes left reads name i j k l status → (seed items : ℕ)
      → name ≡ line.Sample seed items → (j ≡ i) × SampleRun written writes items (sample_text seed items) k l status
  line_sample name status h seed items e = subst (λ (n : Line). LineRun written writes left reads n i j k l status) e h

-- the status of a run that wants memory
pub chosen_or : {I : Type 0} (ended : Result (Unit {0}) Stop) (now named : Option Which) (i j : I)
    → (now ≡ named) ⊎ ((ended ≡ Err stop.NoMemory) × (j ≡ i)) → (now ≡ named) ⊎ ((status_of ended ≡ NoMemory) × (j ≡ i))
chosen_or ended now named i j (inl is) = inl is
chosen_or ended now named i j (inr none) = inr (ap status_of none.0, none.1)

-- only a run whose work was done says nothing
pub done_says : {E : Type 0} (ended : Result (Unit {0}) Stop) (before now : E) → OnOk ended (now ≡ before) → status_of ended ≡ Done → now ≡ before
done_says (Ok done) before now h e = h
done_says (Err stop.Usage) before now h e = let never : ⊥ = cc in absurd never
done_says (Err stop.ReadFailed) before now h e = let never : ⊥ = cc in absurd never
done_says (Err stop.TooLong) before now h e = let never : ⊥ = cc in absurd never
done_says (Err (stop.Refused refusal place)) before now h e = let never : ⊥ = cc in absurd never
done_says (Err stop.WriteFailed) before now h e = let never : ⊥ = cc in absurd never
done_says (Err stop.Differs) before now h e = let never : ⊥ = cc in absurd never
done_says (Err stop.NoMemory) before now h e = let never : ⊥ = cc in absurd never
