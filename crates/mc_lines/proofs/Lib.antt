pub mod CertLemmas
pub mod WrittenLemmas
