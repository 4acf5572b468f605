pub mod RawLemmas
